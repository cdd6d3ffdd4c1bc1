-- There are two subjects. Of what results do not depend on, read Digests first (what vertices with the same digest have in common), then BoardOutcomes (how
-- such vertices end on two boards) and Jobs (their jobs). Matchings is about vertices that do the same on inputs that match, whatever their digests are, and
-- MatchingMarks about how they are found; CopiedPaths is about what copies read, and so about inputs that need not match, and
-- AgreedSources about the test of it on two trees of a source; RenamedAndKeptSources has two uses of
-- it, and KeptOutputs is about boards that go on from outputs of others. Definitions is about whole definitions, Renaming about those whose sources have other
-- names, DefinitionParts about parts that can be loaded, and Keys about outputs that are kept for later runs. TwoRuns says of two runs of one definition that
-- the premises of these laws hold. Refusals says with which fault a call of this crate is refused.
-- Of contents, read AlikeTrees first: trees, views and outcomes that differ only in the contents of files, which a given relation relates. ContentLaws says how
-- the contents of local sources reappear in the outcomes of a graph, and AlikeBoards says the same of the vertices that two boards have settled. EqualContents
-- says that two boards on the same local trees meet these premises. AlikeStates has the relation on states and replies, and TokenRuns says how contents
-- reappear in whole runs, caches included, and OtherContents that one run on tokens serves each table of contents. TokenLists says what the tests of the laws'
-- premises return; TokenPlans has the tests of single vertices.
pub mod Digests
pub mod BoardOutcomes
pub mod Jobs
pub mod Matchings
pub mod CopiedPaths
pub mod AgreedSources
pub mod MatchingMarks
pub mod RenamedAndKeptSources
pub mod KeptOutputs
pub mod Definitions
pub mod Renaming
pub mod DefinitionParts
pub mod Keys
pub mod Refusals
pub mod TwoRuns
pub mod AlikeTrees
pub mod ContentLaws
pub mod AlikeBoards
pub mod EqualContents
pub mod AlikeStates
pub mod TokenRuns
pub mod TokenPlans
pub mod TokenLists
pub mod OtherContents
