-- Entries that are renamed place by place are a rewriting of a definition.
use Rattle.std.proofs.Common.{◌≡◌, ℕ, ◌<◌, ◌-◌, List, [], length, get_or, map, Bool, true, false, Option, Some, Ok, inl, inr, sym, ap, subst, ◌∙◌, arith}
use Rattle.std.specs.Prelude.{slice_get, option_map}
use Rattle.std.specs.List.{Contains, position_or_len}
use Rattle.std.specs.Str.{bytes_eq}
use Rattle.std.proofs.lemmas.Bool.{cases_lt}
use Rattle.std.proofs.lemmas.List.{get_or_default, get_or_past}
use Rattle.std.proofs.lemmas.List.Elements.{Contains-get_or}
use Rattle.std.proofs.lemmas.Option.{slice_get-get_or, slice_get-map}
use Rattle.llb_wire.specs.Digest.{digest_text}
use Rattle.llb_ops.specs.Messages.{op_of}
use Rattle.llb_loader.specs.GraphOfRows.{input_at}
use Rattle.llb_ops.specs.Definition.{definition_of}
use Rattle.llb_loader.specs.Graph.{Numbered}
use Rattle.llb_loader.specs.LoadResult.{IsGraphIn}
use Rattle.llb_laws.specs.Definitions.{last_entry, IsInputRewritten, IsRewriting, IsRewritten, RewritingSharesResult}
use Rattle.llb_laws.specs.Renaming.{renamed_by, partner_in, ArePartners, AreNamedAlike, AreOpsAlike, AreRenamed, LoadRenamed}
use Rattle.llb_laws.proofs.EntryInclusion.{read_once}

-- the item of a mapped list at a place
mapped : (f : List ℕ → List ℕ) (xs : List (List ℕ)) (k : ℕ) → k < length xs → slice_get (map f xs) k ≡ Some (f (get_or xs k []))
mapped f xs k l = slice_get-map f xs k ∙ ap (option_map f) (slice_get-get_or xs k [] l)

some_inside : (a b : List ℕ) → ◌≡◌ {A = Option (List ℕ)} (Some a) (Some b) → a ≡ b
some_inside a b e = cc

module _ (names : List (List ℕ × List ℕ)) (xs ys : List (List ℕ)) (partners : ArePartners xs ys) where
  -- an item of the first list is at a place, and its partner at the same place
  record IsAt (x : List ℕ) : Type 0 where
    place : ℕ
    low : place < length xs
    here : get_or xs place [] ≡ x
    there : get_or ys place [] ≡ partner_in xs ys x

  at : (x : List ℕ) → Contains xs x → IsAt x
  at x c =
      let here : get_or xs c.0 [] ≡ x = get_or_default xs c.0 [] x c.1 ∙ c.2 in
      record { place = c.0; low = c.1; here = here; there = sym (partners.each c.0 c.1) ∙ ap (partner_in xs ys) here }

  among : (x : List ℕ) → Contains xs x → Contains ys (partner_in xs ys x)
  among x c =
      let m = at x c in
      subst (λ (y : List ℕ). Contains ys y) m.there (Contains-get_or ys m.place [] (omega (arith, m.low, partners.as_many)))

  input_rewritten : (i j : _) → AreNamedAlike (map digest_text xs) (map digest_text ys) i j → IsInputRewritten (partner_in xs ys) xs i j
  input_rewritten i j alike =
      record {
        index = alike.index;
        digest = λ x c same.
            let m = at x c in
            let low : m.place < length ys = omega (arith, m.low, partners.as_many) in
            let found = alike.partners m.place (mapped digest_text xs m.place m.low ∙ ap (λ (y : List ℕ). Some (digest_text y)) m.here ∙ ap Some same) in
            ap digest_text (sym m.there) ∙ some_inside (digest_text (get_or ys m.place [])) j.digest (sym (mapped digest_text ys m.place low) ∙ found);
      }

last_partner : (xs ys : List (List ℕ)) → ArePartners xs ys → partner_in xs ys (last_entry xs) ≡ last_entry ys
last_partner xs ys partners = elim (cases_lt 0 (length xs)) [
  | inl some ↦ partners.each (length xs - 1) (omega (arith, some)) ∙ ap (λ (n : ℕ). get_or ys (n - 1) []) partners.as_many
  | inr none ↦ (
      let low = partners.as_many in
      get_or_past ys (position_or_len (bytes_eq (last_entry xs)) xs) [] (omega (arith, none, low))
      ∙ sym (get_or_past ys (length ys - 1) [] (omega (arith, none, low)))
      )
]

-- the lemma of this file
pub renamed_is_rewriting : (names : List (List ℕ × List ℕ)) (xs ys : List (List ℕ)) → AreRenamed names xs ys
    → IsRewriting (partner_in xs ys) (renamed_by names) xs ys
renamed_is_rewriting names xs ys renamed =
    record {
      among = among names xs ys renamed.partners;
      last = last_partner xs ys renamed.partners;
      ops = λ x p q c first second.
          let m = at names xs ys renamed.partners x c in
          let is = renamed.ops m.place m.low p q (ap op_of m.here ∙ first) (ap op_of m.there ∙ second) in
          record {
            op = is.0;
            as_many = is.1.as_many;
            inputs = λ i l. input_rewritten names xs ys renamed.partners (input_at p i) (input_at q i) (is.1.each i l);
          };
    }

-- the ops of equal entries are alike, by equal lists of digests
pub alike_by : (names : List (List ℕ × List ℕ)) (ds es fs gs : List (List ℕ)) (x y z w : List ℕ) → ds ≡ es → fs ≡ gs → x ≡ y → z ≡ w
    → AreOpsAlike names ds fs x z → AreOpsAlike names es gs y w
alike_by names ds es fs gs x y z w d f first second alike =
    subst (λ (t : List ℕ). AreOpsAlike names es gs y t) second (subst (λ (t : List ℕ). AreOpsAlike names es gs t z) first
    (subst (λ (ts : List (List ℕ)). AreOpsAlike names es ts x z) f (subst (λ (ts : List (List ℕ)). AreOpsAlike names ts fs x z) d alike)))

-- loaded definitions whose entries are renamed
pub loaded_renamed : (names : List (List ℕ × List ℕ)) (d e : List ℕ) (g h : Numbered) (xs ys : List (List ℕ))
    → definition_of d ≡ Ok xs → definition_of e ≡ Ok ys
    → IsGraphIn d g → IsGraphIn e h → AreRenamed names xs ys → RewritingSharesResult d g e h → LoadRenamed names d g e h
loaded_renamed names d e g h xs ys dx ey first second renamed law =
    let rewriting = renamed_is_rewriting names xs ys renamed in
    let rewritten : IsRewritten (partner_in xs ys) (renamed_by names) d e = λ zs ws dz ew.
    subst (λ (es : List (List ℕ)). IsRewriting (partner_in xs ys) (renamed_by names) zs es) (read_once e ys ws ey ew)
    (subst (λ (es : List (List ℕ)). IsRewriting (partner_in xs ys) (renamed_by names) es ys) (read_once d xs zs dx dz) rewriting) in
    record {
      first = first;
      second = second;
      rewrite = partner_in xs ys;
      rewritten = rewritten;
      results = λ ls ms trees. law first second (partner_in xs ys) (renamed_by names) rewritten ls ms trees;
    }

-- definitions whose entries, as they are read, are not renamed
pub not_renamed : (names : List (List ℕ × List ℕ)) (d e : List ℕ) (xs ys us vs : List (List ℕ)) (is : Bool)
    → definition_of d ≡ Ok xs → definition_of e ≡ Ok ys → us ≡ xs → vs ≡ ys → (AreRenamed names us vs → is ≡ true) → is ≡ false
    → (zs ws : List (List ℕ)) → definition_of d ≡ Ok zs → definition_of e ≡ Ok ws → ¬ AreRenamed names zs ws
not_renamed names d e xs ys us vs is dx ey first second holds fails zs ws dz ew renamed =
    let all : AreRenamed names us vs =
    subst (λ (es : List (List ℕ)). AreRenamed names us es) (read_once e ws ys ew ey ∙ sym second)
    (subst (λ (es : List (List ℕ)). AreRenamed names es ws) (read_once d zs xs dz dx ∙ sym first) renamed) in
    let both : true ≡ false = sym (holds all) ∙ fails in
    cc
