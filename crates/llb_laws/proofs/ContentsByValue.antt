-- Contents given by value: they are the same in both, so their digests are too; and what is alike by value is alike by any weaker relation.
use Rattle.std.proofs.Common.{◌≡◌, ℕ, zero, suc, false, List, [], ◌∷◌, ◌++◌, Option, Some, None, refl, ap, subst}
use Rattle.llb_tree.specs.Tree.{TreeMap, Entry, Dir, File}
use Rattle.llb_applet.specs.Commands.{line}
use Rattle.llb_wire.specs.Digest.{digits_of}
use Rattle.llb_loader.specs.ReachedRows.{Walk, Reached}
use Rattle.llb_loader.proofs.ReachabilitySearch.{reached_step}
use Rattle.llb_model.specs.Outcome.{Ending, Done, Failed, Outcome, Ended, Blocked}
use Rattle.llb_model.specs.State.{Status, Waiting, Running, Settled}
use Rattle.llb_laws.specs.AlikeTrees.{IsKept, BothOptions, BothLists, AreLike, BothEndings, BothOutcomes}
use Rattle.llb_laws.specs.AlikeStates.{BothStatuses}
use Rattle.llb_laws.specs.ContentLaws.{has_mark, IsLiteral}
use Rattle.llb_laws.proofs.WrittenContents.{unmarked_both, digest_unmarked}

pub literal_kept : IsKept IsLiteral
literal_kept = record {
  empty = record { same = refl; plain = refl };
  appended = λ a b c d first second. record { same = λ i. first.same i ++ second.same i; plain = unmarked_both a c first.plain second.plain };
}

pub literal_itself : (a : List ℕ) → has_mark a ≡ false → IsLiteral a a
literal_itself a none = record { same = refl; plain = none }

-- the digests of equal contents are equal, and their line has no byte 255
pub literal_digest : (a b : List ℕ) → IsLiteral a b → IsLiteral (line (digits_of a)) (line (digits_of b))
literal_digest a b is = record { same = ap (λ c. line (digits_of c)) is.same; plain = digest_unmarked a }

-- ---- a weaker relation

module _ (R S : List ℕ → List ℕ → Type 0) (weaker : (a b : List ℕ) → R a b → S a b) where
  pub weaker_like : (o p : Option Entry) → BothOptions (AreLike R) o p → BothOptions (AreLike S) o p
  weaker_like None None h = tt
  weaker_like (Some (Dir m)) (Some (Dir n)) h = h
  weaker_like (Some (File m a)) (Some (File n b)) h = (h.0, weaker a b h.1)
  weaker_like (Some (Dir m)) (Some (File n b)) h = absurd h
  weaker_like (Some (File m a)) (Some (Dir n)) h = absurd h
  weaker_like None (Some e) h = absurd h
  weaker_like (Some e) None h = absurd h

module _ (P Q : TreeMap → TreeMap → Type 0) (weaker : (t u : TreeMap) → P t u → Q t u) where
  pub weaker_option : (o p : Option TreeMap) → BothOptions P o p → BothOptions Q o p
  weaker_option None None h = tt
  weaker_option (Some t) (Some u) h = weaker t u h
  weaker_option None (Some u) h = absurd h
  weaker_option (Some t) None h = absurd h

  pub weaker_trees : (ts us : List TreeMap) → BothLists P ts us → BothLists Q ts us
  weaker_trees [] [] h = tt
  weaker_trees (t ∷ ts) (u ∷ us) h = (weaker t u h.0, weaker_trees ts us h.1)
  weaker_trees [] (u ∷ us) h = absurd h
  weaker_trees (t ∷ ts) [] h = absurd h

  pub weaker_ending : (d e : Ending) → BothEndings P d e → BothEndings Q d e
  weaker_ending (Done ts) (Done us) h = weaker_trees ts us h
  weaker_ending (Failed f) (Failed g) h = h
  weaker_ending (Done ts) (Failed g) h = absurd h
  weaker_ending (Failed f) (Done us) h = absurd h

  pub weaker_endings : (o p : Option Ending) → BothOptions (BothEndings P) o p → BothOptions (BothEndings Q) o p
  weaker_endings None None h = tt
  weaker_endings (Some d) (Some e) h = weaker_ending d e h
  weaker_endings None (Some e) h = absurd h
  weaker_endings (Some d) None h = absurd h

  pub weaker_status : (x y : Status) → BothStatuses P x y → BothStatuses Q x y
  weaker_status Waiting Waiting h = tt
  weaker_status (Running w) (Running u) h = h
  weaker_status (Settled d) (Settled e) h = weaker_ending d e h
  weaker_status _ _ h = absurd h

  -- outcomes that are alike by the stronger relation are alike by the weaker one
  pub weaker_outcomes : (o p : Option Outcome) → BothOptions (BothOutcomes P) o p → BothOptions (BothOutcomes Q) o p
  weaker_outcomes None None h = tt
  weaker_outcomes (Some Blocked) (Some Blocked) h = tt
  weaker_outcomes (Some (Ended d)) (Some (Ended e)) h = weaker_ending d e h
  weaker_outcomes (Some (Ended d)) (Some Blocked) h = absurd h
  weaker_outcomes (Some Blocked) (Some (Ended e)) h = absurd h
  weaker_outcomes None (Some e) h = absurd h
  weaker_outcomes (Some d) None h = absurd h

-- ---- the vertices before one that is before another

reached_on : (g : List (List ℕ)) (top middle : ℕ) → Reached g top middle → (n k : ℕ) → Walk g middle k n → Reached g top k
reached_on g top middle before zero k walk = subst (Reached g top) walk before
reached_on g top middle before (suc n) k walk = reached_step g top walk.0 k (reached_on g top middle before n walk.0 walk.1) walk.2

pub reached_through : (g : List (List ℕ)) (top middle k : ℕ) → Reached g top middle → Reached g middle k → Reached g top k
reached_through g top middle k before after = reached_on g top middle before after.0 k after.1
