-- Two boards over one graph and the same local trees meet the premises of the laws of contents, for the relation that two contents are equal.
use Rattle.std.specs.Prelude.{ℕ}
use Rattle.std.specs.Str.{bytes_eq}
use Rattle.llb_model.specs.Outcome.{Ending}
use Rattle.llb_board.specs.BoardValue.{BoardValue}
use Rattle.llb_laws.specs.AlikeBoards.{AreSettled}
use Rattle.llb_laws.specs.AlikeTrees.{AreAlikeEndings, IsKept}
use Rattle.llb_laws.specs.ContentLaws.{By, HasAlikeOutcomes, HaveAlikeSources, RelatesWritten}

-- premises, for the relation that two contents are equal: appending keeps it; it relates what ops write to itself, and digests of equal contents; and the
-- sources have alike trees
pub record MeetContents (b c : BoardValue) : Type 0 where
  pub kept : IsKept (By bytes_eq)
  pub written : (v : ℕ) → RelatesWritten (By bytes_eq) b.build.graph v
  pub sources : (v : ℕ) → HaveAlikeSources (By bytes_eq) b.build.graph v b.build.locals c.build.locals

-- the premises of the laws of contents hold of two boards, and so do the conclusions: plain outcomes are alike, and so are the endings of a vertex that both
-- boards have settled
pub record AgreeOnContents (b c : BoardValue) : Type 0 where
  pub premises : MeetContents b c
  pub outcomes : (v : ℕ) → HasAlikeOutcomes (By bytes_eq) b.build.graph b.build.locals c.build.locals v
  pub endings : (v : ℕ) (d e : Ending) → AreSettled b c v d e → AreAlikeEndings (By bytes_eq) d e
