-- A view with another tree in one mount is a view.
use Rattle.std.proofs.Common.{◌≡◌, ◌≢◌, ℕ, ◌<◌, ◌^◌, List, [], get_or, set, subst, sym, ◌∙◌, ap}
use Rattle.std.proofs.lemmas.List.{length-set}
use Rattle.std.proofs.Math.Seq.{map-set_same}
use Rattle.std.specs.List.{Contains, AllPairs}
use Rattle.llb_mount.specs.declared.shown_tree.Shown.{Shown}
use Rattle.llb_mount.specs.View.{dests, IsView}

-- a mount that is written over one with the same dest leaves a view
pub exchanged_view : (mounts : List Shown) (number : ℕ) (m old : Shown) → old ≡ get_or mounts number old → m.dest ≡ old.dest → IsView mounts
    → IsView (set mounts number m)
exchanged_view mounts number m old read same view =
    let dest : Shown → List (List ℕ) = λ m. m.dest in
    let stay : dests (set mounts number m) ≡ dests mounts = map-set_same dest mounts number m old (same ∙ ap dest read) in
    let HasRoot : List (List (List ℕ)) → Type 0 = λ ds. Contains ds [] in
    let Differ : List (List (List ℕ)) → Type 0 = λ ds. AllPairs (λ d e. d ≢ e) ds in
    let Few : ℕ → Type 0 = λ n. n < 2 ^ 32 in
    record {
      root = subst HasRoot (sym stay) view.root;
      differ = subst Differ (sym stay) view.differ;
      few = subst Few (sym (length-set mounts number m)) view.few;
    }

-- what holds of the dests holds after it too
pub exchanged_dests : (P : List (List (List ℕ)) → Type 0) (mounts : List Shown) (number : ℕ) (m old : Shown) → old ≡ get_or mounts number old
    → m.dest ≡ old.dest → P (dests mounts) → P (dests (set mounts number m))
exchanged_dests P mounts number m old read same =
    subst P (sym (map-set_same (λ (m : Shown). m.dest) mounts number m old (same ∙ ap (λ (m : Shown). m.dest) read)))
