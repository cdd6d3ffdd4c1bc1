-- Whether mounts make a view: which dests are taken, and that those so far differ.
use Rattle.std.proofs.Common.{◌≡◌, ◌≢◌, ℕ, ◌+◌, ◌<◌, ◌≤◌, List, [], ◌∷◌, ◌++◌, length, take, get_or, sym, ap, ◌∙◌, subst, arith, length-take-le}
use Rattle.std.proofs.lemmas.List.{get_or_default, length-map, get_or-map, take_more, map_push, get_or-take}
use Rattle.std.proofs.lemmas.List.Quantifiers.{all_pairs_push}
use Rattle.std.specs.List.{Contains, AllPairs}
use Rattle.llb_mount.specs.declared.shown_tree.Shown.{Shown}
use Rattle.llb_mount.specs.View.{dests, mount_at, no_mount}

-- the dest of the mount at hand is taken
pub taken : (mounts : List Shown) (names : List (List ℕ)) (i : ℕ) (m : Shown) → i < length mounts → m ≡ get_or mounts i m → m.dest ≡ names
    → Contains (dests mounts) names
taken mounts names i m below read same =
    let count = length-map mounts (λ (m : Shown). m.dest) in
    (i, omega (arith, below, count), get_or-map (λ (m : Shown). m.dest) mounts i m names below ∙ ap (λ (m : Shown). m.dest) (sym read) ∙ same)

-- where no mount is at these names, they are not taken
pub not_taken : (mounts : List Shown) (names : List (List ℕ)) (i : ℕ) → length mounts ≤ i
    → ((k : ℕ) → k < i → (mount_at mounts k).dest ≡ names → ⊥) → Contains (dests mounts) names → ⊥
not_taken mounts names i all none (k, below, is) =
    let within : k < length mounts = omega (arith, below, length-map mounts (λ (m : Shown). m.dest)) in
    none k (omega arith) (sym (get_or-map (λ (m : Shown). m.dest) mounts k no_mount names within) ∙ is)

abbrev pub Differ : List Shown → Type 0
Differ mounts = AllPairs (λ d e. d ≢ e) (dests mounts)

-- if the next dest is not taken before, the dests differ with it too
pub one_more : (mounts : List Shown) (i : ℕ) (m : Shown) → i < length mounts → m ≡ get_or mounts i m → Differ (take i mounts)
    → (Contains (dests (take i mounts)) m.dest → ⊥) → Differ (take (i + 1) mounts)
one_more mounts i m below read before free =
    let dest : Shown → List (List ℕ) = λ m. m.dest in
    let more : dests (take (i + 1) mounts) ≡ dests (take i mounts) ++ m.dest ∷ [] =
    ap dests (take_more mounts i m below) ∙ map_push dest (take i mounts) (get_or mounts i m)
    ∙ ap (λ (m : Shown). dests (take i mounts) ++ m.dest ∷ []) (sym read) in
    let All_differ : List (List (List ℕ)) → Type 0 = λ ds. AllPairs (λ d e. d ≢ e) ds in
    subst All_differ (sym more) (all_pairs_push (λ d e. d ≢ e) (dests (take i mounts)) m.dest before
    (λ k d within same. free (k, within, get_or_default (dests (take i mounts)) k m.dest d within ∙ same)))

-- if a dest is taken before its mount, the dests do not differ
pub twice : (mounts : List Shown) (i : ℕ) (m : Shown) → i < length mounts → m ≡ get_or mounts i m
    → Contains (dests (take i mounts)) m.dest → Differ mounts → ⊥
twice mounts i m below read (k, within, same) differ =
    let dest : Shown → List (List ℕ) = λ m. m.dest in
    let before : k < i = omega (arith, within, length-map (take i mounts) dest, length-take-le i mounts) in
    let all : length (dests mounts) ≡ length mounts = length-map mounts dest in
    let first : get_or (dests mounts) k m.dest ≡ m.dest =
    get_or-map dest mounts k m m.dest (omega (arith, before, below)) ∙ ap dest (sym (get_or-take i mounts k m before))
    ∙ sym (get_or-map dest (take i mounts) k m m.dest (omega (arith, within, length-map (take i mounts) dest))) ∙ same in
    let second : get_or (dests mounts) i m.dest ≡ m.dest = get_or-map dest mounts i m m.dest below ∙ ap dest (sym read) in
    differ k i m.dest before (omega (arith, below, all)) (first ∙ sym second)
