pub mod ProgramEnd
pub mod VertexOutcomes
pub mod NoCaches
