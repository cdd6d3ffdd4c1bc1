-- The last event of a record.
use Rattle.std.proofs.Common.{◌≡◌, ◌-◌, List, [], ◌∷◌, ◌++◌, length, Some, refl, ap, ◌∙◌, arith, length-append}
use Rattle.std.specs.Prelude.{slice_get}
use Rattle.llb_board.specs.History.{last_of}

-- the item that was appended is the last
at_end : {A : Type 0} (zs : List A) (e : A) → slice_get (zs ++ e ∷ []) (length zs) ≡ Some e
at_end [] e = refl
at_end (z ∷ zs) e = at_end zs e

pub last_is : {A : Type 0} (xs ys : List A) (e : A) → xs ≡ ys ++ e ∷ [] → last_of xs ≡ Some e
last_is xs ys e is =
    let n : length (ys ++ e ∷ []) - 1 ≡ length ys = omega (arith, length-append ys (e ∷ [])) in
    ap last_of is ∙ ap (slice_get (ys ++ e ∷ [])) n ∙ at_end ys e
