-- The events that may come, as they are counted vertex by vertex.
use Rattle.std.proofs.Common.{◌≡◌, ℕ, ◌+◌, ◌<◌, ◌≤◌, List, [], ◌∷◌, drop, length, sym, ap, ◌∙◌, arith, add-one, drop-cons, get_or, ◌*◌, ◌^◌}
use Rattle.std.specs.Prelude.{Some, slice_get}
use Rattle.std.proofs.lemmas.Option.{slice_get_within, get_or_from_slice_get, slice_get-get_or}
use Rattle.llb_loader.specs.declared.graph.Vertex.{Vertex}
use Rattle.llb_model.specs.Program.{program_of, program_at}
use Rattle.llb_model.specs.EventBounds.{events_of, most_from}

-- the events of the vertices that are counted, and of the others
pub record CountedSoFar (vs : List Vertex) (k all : ℕ) : Type 0 where
  pub counted : all + most_from k (drop k vs) [] ≡ most_from 0 vs []
  pub small : all ≤ k * 4_294_967_298

pub counted_more : (vs : List Vertex) (k all n : ℕ) (v : Vertex) → slice_get vs k ≡ Some v → CountedSoFar vs k all → n ≡ length (program_of v).steps
    → n < 2 ^ 32 → CountedSoFar vs (k + 1) (all + (n + 2))
counted_more vs k all n v there here is few =
    let next : drop k vs ≡ v ∷ drop (k + 1) vs
    = drop-cons vs k v (slice_get_within vs k v there) ∙ (λ i. get_or_from_slice_get vs k v v there i ∷ drop (sym (add-one k) i) vs) in
    let add : most_from k (drop k vs) [] ≡ events_of v + most_from (k + 1) (drop (k + 1) vs) []
    = ap (λ us. most_from k us []) next ∙ ap (λ m. m + most_from (k + 1) (drop (k + 1) vs) []) (once (events_of v)) in
    record { counted = omega (arith, add, here.counted); small = omega (arith, here.small) }
  where
    once : (n : ℕ) → n * 1 ≡ n
    once n = omega arith

-- the vertex of the next number is counted, with its claim, its micro-steps and its settle
pub counted_at : (vs : List Vertex) (k all n : ℕ) → k < length vs → CountedSoFar vs k all → n ≡ length (program_at (slice_get vs k)).steps
    → n < 2 ^ 32 → CountedSoFar vs (k + 1) (all + (n + 2))
counted_at [] k all n low here is few = absurd (omega arith)
counted_at (y ∷ vs) k all n low here is few =
    let there = slice_get-get_or (y ∷ vs) k y low in
    counted_more (y ∷ vs) k all n (get_or (y ∷ vs) k y) there here (is ∙ ap (λ o. length (program_at o).steps) there) few
