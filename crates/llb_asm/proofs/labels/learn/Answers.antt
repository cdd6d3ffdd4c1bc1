-- The index finds the texts with one more.
use Rattle.std.proofs.Common.{◌≡◌, sym, ap, ◌∙◌, ℕ, List, Some, length, true, false}
use Rattle.std.specs.Prelude.{is_some, string_bytes}
use Rattle.std.specs.Map.{update}
use Rattle.std.specs.Str.{bytes_eq}
use Rattle.std.proofs.lemmas.Map.Text.{btree_map_updates_text}
use Rattle.std.specs.BTreeMap.{get_by_text}
use Rattle.llb_asm.proofs.DigestIndexInsertion.{index_new, index_old, copied_some}
use Rattle.llb_asm.proofs.labels.learn.Goals as goal

pub returns-in_ok-insert-clause-learnt : goal.returns-in_ok-insert-clause-learnt
returns-in_ok-insert-clause-learnt c =
    let texts : List (List ℕ) = c.args.texts.now in
    let t : List ℕ = c.args.text.now in
    let look = λ (d : List ℕ). get_by_text c.args.first.now d in
    let none : is_some (look t) ≡ false =
    ap (λ k. is_some (look k)) (sym c.as_str.ensures.value) ∙ ap is_some (sym c.get.ensures.value) ∙ copied_some c.get.result ∙ c.if-is_none.ensures in
    let key : string_bytes c.into_string.result ≡ t = c.into_string.ensures ∙ c.in_ok-copy.ensures in
    let updated : (d : List ℕ) → get_by_text c.insert.new.self d ≡ update bytes_eq look t (Some (length texts)) d =
    λ d. btree_map_updates_text (string_bytes c.into_string.result) c.args.first.now c.insert.new.self _ c.in_ok-insert.ensures.updates d
    ∙ ap (λ k. update bytes_eq look k (Some (length texts)) d) key in
    index_new texts t look (λ d. get_by_text c.insert.new.self d) c.requires none updated

pub returns-else-is_none-clause-learnt : goal.returns-else-is_none-clause-learnt
returns-else-is_none-clause-learnt c =
    let t : List ℕ = c.args.text.now in
    let look = λ (d : List ℕ). get_by_text c.args.first.now d in
    let some : is_some (look t) ≡ true =
    ap (λ k. is_some (look k)) (sym c.as_str.ensures.value) ∙ ap is_some (sym c.get.ensures.value) ∙ copied_some c.get.result ∙ c.if-is_none.ensures in
    index_old c.args.texts.now t look c.requires some
