-- What a search finds first.
use Rattle.std.proofs.Common.{◌≡◌, ℕ, ◌+◌, ◌<◌, Bool, true, cond, List, Some, length, drop, get_or, slice_get, refl, sym, ap, ◌∙◌}
use Rattle.std.specs.List.{find}
use Rattle.std.proofs.lemmas.List.{at_drop_more}
use Rattle.std.proofs.lemmas.Option.{slice_get_read}

-- the first one passes the test
pub found_here : {A : Type 0} (test : A → Bool) (xs : List A) (i : ℕ) (x : A) → i < length xs → x ≡ get_or xs i x → test x ≡ true
    → find test (drop i xs) ≡ slice_get xs i
found_here test xs i x below read passes =
    at_drop_more (find test) xs i x below ∙ ap (λ y. cond (test y) (Some y) (find test (drop (i + 1) xs))) (sym read)
    ∙ ap (λ b. cond b (Some x) (find test (drop (i + 1) xs))) passes ∙ sym (slice_get_read xs (length xs) i x refl below read)
