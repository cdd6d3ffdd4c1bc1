-- Read first TextGrammar (which lines are read as which entries), with ItemLines, EntryLine and FieldValueTexts for one line and one value; then
-- DisassembledText (the one text that is written for entries), PrintedPrefix (how much of a text is written) and Faults (the texts of faults). LineReader and
-- DigestTextIndex say how the code reads lines and finds labels.
pub mod FieldValueTexts
pub mod ItemLines
pub mod EntryLine
pub mod TextGrammar
pub mod LineReader
pub mod DisassembledText
pub mod DigestTextIndex
pub mod PrintedPrefix
pub mod Faults
