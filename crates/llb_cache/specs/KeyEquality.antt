-- `same_key` is true of two keys exactly if they are equal, so it is an equivalence.
use Rattle.std.specs.Prelude.{◌≡◌, ◌↔◌, ℕ, true, ◌&&◌, ◌==◌, List, Option, Some, None, nat_eq}
use Rattle.std.specs.Cmp.{IsEquivalence, both_ways}
use Rattle.std.specs.Cmp.Lexicographic.{pointwise, bytes_decides}
use Rattle.std.proofs.Common.{refl, sym, ap, ◌∙◌, eq-eqb}
use Rattle.std.proofs.lemmas.Bool.{and_parts, eqb-true}
use Rattle.llb_wire.specs.Hashing.{same_text}
use Rattle.llb_cache.specs.declared.key.Key.{Key}
use Rattle.llb_cache.specs.declared.key.Seed.{Seed}
use Rattle.llb_cache.specs.declared.key.Mode.{Mode}
use Rattle.llb_cache.specs.declared.key.Mode.TheVariants.{Shared, Private, Locked}
use Rattle.llb_cache.specs.Key.{same_mode, same_seeds, same_key}

same_modes : (m n : Mode) → same_mode m n ≡ true → m ≡ n
same_modes Shared Shared e = refl
same_modes Shared Private e = absurd cc
same_modes Shared Locked e = absurd cc
same_modes Private Shared e = absurd cc
same_modes Private Private e = refl
same_modes Private Locked e = absurd cc
same_modes Locked Shared e = absurd cc
same_modes Locked Private e = absurd cc
same_modes Locked Locked e = refl

mode_itself : (m : Mode) → same_mode m m ≡ true
mode_itself Shared = refl
mode_itself Private = refl
mode_itself Locked = refl

text_itself : (xs : List ℕ) → pointwise nat_eq xs xs ≡ true
text_itself xs = (bytes_decides xs xs).1 refl

same_seeds_are : (s t : Option Seed) → same_seeds s t ≡ true → s ≡ t
same_seeds_are None None e = refl
same_seeds_are None (Some t) e = absurd cc
same_seeds_are (Some s) None e = absurd cc
same_seeds_are (Some s) (Some t) e =
    let h = and_parts (s.index == t.index) (pointwise nat_eq s.digest t.digest) e in
    let digest = same_text s.digest t.digest h.1 in
    let index = eqb-true s.index t.index h.0 in
    λ i. Some (record { digest = digest i; index = index i })

seed_itself : (s : Option Seed) → same_seeds s s ≡ true
seed_itself None = refl
seed_itself (Some s) = ap (λ b. b && pointwise nat_eq s.digest s.digest) (eq-eqb s.index s.index refl) ∙ text_itself s.digest

pub same_keys : (k l : Key) → same_key k l ≡ true → k ≡ l
unfolding same_key
same_keys k l e =
    let h = and_parts (same_mode k.mode l.mode && same_seeds k.seed l.seed) (pointwise nat_eq k.id l.id) e in
    let g = and_parts (same_mode k.mode l.mode) (same_seeds k.seed l.seed) h.0 in
    let mode = same_modes k.mode l.mode g.0 in
    let seed = same_seeds_are k.seed l.seed g.1 in
    let id = same_text k.id l.id h.1 in
    λ i. record { id = id i; seed = seed i; mode = mode i }

pub key_itself : (k : Key) → same_key k k ≡ true
unfolding same_key
key_itself k =
    ap (λ b. b && same_seeds k.seed k.seed && pointwise nat_eq k.id k.id) (mode_itself k.mode)
    ∙ ap (λ b. b && pointwise nat_eq k.id k.id) (seed_itself k.seed) ∙ text_itself k.id

-- `same_key` is true of two keys exactly if they are equal
pub key_test : (k l : Key) → (same_key k l ≡ true) ↔ (k ≡ l)
key_test k l = (same_keys k l, λ e. ap (same_key k) (sym e) ∙ key_itself k)

pub key_equiv : IsEquivalence same_key
key_equiv = record {
  refl = key_itself;
  symm = λ k l. both_ways (same_key k l) (same_key l k) (λ e. (key_test l k).1 (sym (same_keys k l e))) (λ e. (key_test k l).1 (sym (same_keys l k e)));
  congr = λ k l m e. ap (λ n. same_key n m) (same_keys k l e);
}
