-- Read first TreeText (the text of a tree) and TextGrammar (which texts are texts of trees, and the first fault of any other text), then WrittenPrefix (how
-- much of a text is written) and CallResults. LineFields, TreeAfterNextLine, GrowingTree and LineScanning say how the code reads a text.
pub mod TreeText
pub mod CallResults
pub mod WrittenPrefix
pub mod TextGrammar
pub mod LineFields
pub mod TreeAfterNextLine
pub mod GrowingTree
pub mod LineScanning
