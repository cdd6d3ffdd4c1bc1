use Rattle.std.proofs.Common.{Bool, ◌≡◌, ◌+◌, ◌-◌, ◌++◌, ◌∷◌, ◌==◌, [], ℕ, List, true, false, length, take, nat_eq, subst, sym, ◌∙◌, ap, arith}
use Rattle.std.proofs.lemmas.Bool.{lt-ltb}
use Rattle.std.proofs.lemmas.List.{length-take, length_push}
use Rattle.std.specs.Cmp.Lexicographic.{pointwise}
use Rattle.std.specs.List.{prefix_len}
use Rattle.llb_tree.specs.Path.{is_dot, is_dots}
use Rattle.llb_glob.specs.declared.pattern.Walk.{Walk}
use Rattle.llb_glob.specs.TextCheckCounts.{Stands, Enters, is_part}
use Rattle.llb_glob.proofs.Names.{short_name}
use Rattle.llb_glob.proofs.PartwiseTextCheck.{goes_down, goes_up, prefix_len-take, sound_more, sound_stays}
use Rattle.llb_glob.proofs.pattern.Walk.enter.Goals as goal
use Rattle.llb_glob.proofs.pattern.Walk.enter.Goals.{After-eq-2, then-self+then-is_part, else-self, else-self-via-then-self+else-is_part}
use Rattle.llb_glob.proofs.pattern.Walk.enter.Goals.{else-self-via-else-self}

pub is_part-requires : goal.is_part-requires
is_part-requires c = short_name c.args.part.now (sym c.is_name.ensures ∙ c.if-not-is_name.false)

-- the part is not empty and not `.`
some : (c : After-eq-2) → (length c.args.part.now == 0) ≡ false
some c = sym c.is_empty.ensures ∙ c.if-is_empty.false

no_dot : (c : After-eq-2) → is_dot c.args.part.now ≡ false
no_dot c =
    ap is_dot (sym c.as_bytes.ensures.value)
    ∙ ap (λ x. pointwise nat_eq c.as_bytes.result.now x) (sym c.as_slice.ensures)
    ∙ sym c.eq.ensures
    ∙ c.if-eq.false

-- whether the part is `..`
dots : (c : After-eq-2) (b : Bool) → c.eq-2.result ≡ b → is_dots c.args.part.now ≡ b
dots c b is =
    ap is_dots (sym c.as_bytes-2.ensures.value)
    ∙ ap (λ x. pointwise nat_eq c.as_bytes-2.result.now x) (sym c.as_slice-2.ensures)
    ∙ sym c.eq-2.ensures
    ∙ is

pub returns-then-eq-2 : goal.returns-then-eq-2
returns-then-eq-2 c = λ path stands.
    let tested = (goal.at.returns-then-eq-2 c).After-eq-2 in
    let up = goes_up path c.args.part.now (some tested) (no_dot tested) (dots tested true c.if-eq-2.true) in
    let above : List (List ℕ) = take (length path - 1) path in
    let depth : c.saturating_sub-self.result ≡ length path - 1 = c.saturating_sub-self.ensures ∙ ap (λ n. n - 1) stands.depth in
    let long : length above ≡ length path - 1 = omega (arith, length-take (length path - 1) path) in
    let sound : c.min-self.result ≡ prefix_len is_part above =
    omega (arith, prefix_len-take is_part (length path - 1) path, c.min-self.ensures, stands.sound, depth) in
    let walk : Walk = record { depth = c.saturating_sub-self.result; sound = c.min-self.result } in
    subst (λ entered. Enters entered true walk) (sym up) (record { depth = depth ∙ sym long; sound = sound })

pub returns : goal.returns
returns c = λ path stands.
    let part = c.args.part.now in
    let tested = (goal.at.returns c).After-eq-2 in
    let name = sym c.is_name.ensures ∙ c.if-not-is_name.false in
    let room = lt-ltb (length path) 128 (omega (arith, stands.depth, c.if-self-ge128.false)) in
    let down = goes_down path part (some tested) (no_dot tested) (dots tested false c.if-eq-2.false) name room in
    let deep : c.args.self.now.depth + 1 ≡ length (path ++ part ∷ []) = ap (λ n. n + 1) stands.depth ∙ sym (length_push path part) in
    let At : Walk → Type 0 = λ walk. Stands (path ++ part ∷ []) (record { depth = walk.depth + 1; sound = walk.sound }) in
    let more = sound_more path part c.args.self.now.sound stands.sound in
    let stays = sound_stays path part c.args.self.now.sound stands.sound in
    let stood : At c.if-self.self =
    elim c.if-self.branch [
      | then-self+then-is_part w ↦
          subst At (sym w.self-is) (record { depth = deep; sound = more (w.if-self.true ∙ stands.depth) (sym w.is_part.ensures ∙ w.if-is_part.true) })
      | else-self w ↦
          let sound : c.args.self.now.sound ≡ prefix_len is_part (path ++ part ∷ []) =
          elim w.else-self.branch [
            | else-self-via-then-self+else-is_part w' ↦ stays (λ _. sym w'.is_part.ensures ∙ w'.if-is_part.false)
            | else-self-via-else-self w' ↦ stays (λ all. absurd (w'.if-self.false (all ∙ sym stands.depth)))
          ] in
          subst At (sym w.self-is) (record { depth = deep; sound = sound })
    ] in
    let walk : Walk = record { depth = c.if-self.self.depth + 1; sound = c.if-self.self.sound } in
    subst (λ entered. Enters entered true walk) (sym down) stood
