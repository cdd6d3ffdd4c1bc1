-- What holds of caches holds after a lease is taken back with what it added, and after a lease of instances that are there.
use Rattle.std.proofs.Common.{◌≡◌, ◌≢◌, ◌<◌, ◌≤◌, Bool, true, false, cond, List, length, sym, ap, ◌∙◌, arith, inl, inr}
use Rattle.std.specs.List.{All, AllPairs}
use Rattle.std.specs.Map.{keys_of}
use Rattle.std.proofs.lemmas.Bool.{false_from_ne_true}
use Rattle.std.proofs.lemmas.List.Elements.{All-contains}
use Rattle.llb_cache.specs.declared.key.Key.{Key}
use Rattle.llb_cache.specs.declared.lease_needs.Instance.{Instance}
use Rattle.llb_cache.specs.Caches.{CachesValue, Row, trees_of, is_held, free_lease, IsCaches, IsExclusive, AreThere}
use Rattle.llb_cache.specs.LeaseAdditions.{LentValue, CanLend, lent_again}
use Rattle.llb_cache.proofs.ListMembership.{contained_in}
use Rattle.llb_cache.proofs.InstanceHolders.{holder, lease_short, trimmed_lease}
use Rattle.llb_cache.specs.InstanceMarks.{Remarks, Unmarks, is_one_of, IsMarked}
use Rattle.llb_cache.proofs.CacheInvariant.{each_after, exclusive_after}
use Rattle.llb_cache.proofs.ExactMarks.{later_held}

-- ---- fewer rows

-- instances that no lease has are removed, and their marks with them
pub unmade_marked : (c : CachesValue) (rows : List Row) (marks new : List (List Bool)) → IsMarked c marks → AreThere rows c.out
    → ((k : Key) → length (trees_of rows k) ≤ length (trees_of c.rows k)) → length new ≡ length rows → Unmarks c.rows marks rows new
    → IsMarked (record c { rows = rows }) new
unmade_marked c rows marks new is there fewer each unmarks = record {
  caches = record {
    exclusive = is.caches.exclusive;
    apart = is.caches.apart;
    there = there;
    few = λ k. let less = fewer k in let old = is.caches.few k in omega (arith, less, old);
    short = is.caches.short;
    ends = is.caches.ends;
  };
  each = each;
  exact = λ p alone. elim (unmarks p) [
    | inl h ↦ h ∙ is.exact p alone
    | inr h ↦ h.0 ∙ sym (false_from_ne_true (is_held c.out p) (λ held.
        let x = holder c.out p held in
        let below = All-contains (λ (q : Instance). q.number < length (trees_of rows q.key)) x.1 p (there x.0 x.1 x.2) (contained_in x.1 p x.3) in
        let none = h.1 in
        absurd (omega (arith, below, none))))
  ];
}

-- ---- a lease more

again_keeps : (c : CachesValue) (l : LentValue) → IsCaches c → CanLend c l → IsCaches (lent_again c l.places)
again_keeps c l is can = record {
  exclusive = exclusive_after c.out l.places is.exclusive
      (λ p. All-contains (λ (q : Instance). IsExclusive q.key.mode → is_held c.out q ≡ false) l.places p can.free);
  apart = each_after c.out l.places (AllPairs (λ p q. p.key ≢ q.key)) can.apart is.apart;
  there = each_after c.out l.places (All (λ p. p.number < length (trees_of c.rows p.key))) can.there is.there;
  few = is.few;
  short = lease_short c.out l.places is.short can.few;
  ends = trimmed_lease c.out (free_lease c.out) l.places is.ends;
}

pub again_marked : (c : CachesValue) (l : LentValue) (marks new : List (List Bool)) → IsMarked c marks → CanLend c l
    → Remarks (keys_of c.rows) marks (keys_of c.rows) new (is_one_of l.places) true → length new ≡ length marks → IsMarked (lent_again c l.places) new
again_marked c l marks new is can remarks each = record {
  caches = again_keeps c l is.caches can;
  each = each ∙ is.each;
  exact = λ p alone. remarks p ∙ ap (λ b. cond (is_one_of l.places p) true b) (is.exact p alone) ∙ later_held c.out l.places p;
}
