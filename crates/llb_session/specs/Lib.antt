-- Read first Request (what a line asks for), PrintedTexts, GraphText, Reasons, ActionReasons and ReasonLines (what is printed) and LineReplies (the reply to
-- each request, and the stepper after it), then Conversation (which lines some bytes spell, and how a conversation replies to them) with Streams (what streams
-- hold before and after a call); GoOutput says what a `go` prints: a line for each event that it does, with the table's reply, then `stop` or `end`;
-- ConversationStates says how each byte changes a conversation's state.
pub mod Request
pub mod Streams
pub mod PrintedTexts
pub mod GraphText
pub mod Reasons
pub mod ActionReasons
pub mod ReasonLines
pub mod LineReplies
pub mod Conversation
pub mod ConversationStates
pub mod GoOutput
