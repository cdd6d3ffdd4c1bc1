use Rattle.std.proofs.Common.{◌≡◌, ◌≤◌, List, ℕ, length, subst, sym}
use Rattle.std.specs.Str.{chars}
use Rattle.llb_glob.proofs.MatchDecision.{is_the_name_test}
use Rattle.llb_glob.specs.Matching.{name_matches}
use Rattle.llb_glob.proofs.Names.{short_name}
use Rattle.llb_glob.proofs.part.PartNameTest.passes.Goals as goal

pub matches-requires : goal.matches-requires
matches-requires c = subst (λ name. length name ≤ 255) (sym c.as_str.ensures.value) (short_name _ c.as_str.ensures.name)

pub returns : goal.returns
returns c = subst (λ (name : List ℕ). c.matches.result ≡ name_matches c.args.self.now (chars name)) c.as_str.ensures.value
    (is_the_name_test c.matches.result c.args.self.now (chars c.as_str.result.now) c.matches.ensures)
