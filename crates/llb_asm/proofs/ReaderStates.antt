-- The state of the reading after some items and after some entries, and what each line does there.
use Rattle.std.specs.Prelude.{position, nat_eq}
use Rattle.std.specs.Str.{is_utf8}
use Rattle.std.proofs.Common.{◌≡◌, ◌≢◌, refl, sym, ap, subst, ◌∙◌, ℕ, Bool, true, false, if◌then◌else◌, List, [], ◌∷◌, ◌++◌, append_assoc, append-nil}
use Rattle.std.proofs.Common.{None, Result, Ok, Err, ◌⊎◌, inl, inr}
use Rattle.llb_wire.specs.Hashing.{same_text}
use Rattle.llb_wire.specs.CallResults.{◌>>=◌}
use Rattle.llb_ops.specs.Writing.{set_bytes}
use Rattle.llb_asm.specs.declared.fault.Rule.TheVariants.{Syntax}
use Rattle.llb_asm.specs.declared.line.Refusal.{Refusal}
use Rattle.llb_asm.specs.declared.line.Refusal.TheVariants.{Breaks}
use Rattle.llb_asm.specs.declared.line.Here.{Here}
use Rattle.llb_asm.specs.declared.line.Item.{Item}
use Rattle.llb_asm.specs.declared.open_op.Frame.{Frame}
use Rattle.llb_wire.specs.TextComparison.{is_text}
use Rattle.llb_asm.specs.EntryLine.{parted, parted_at, inside, line_in}
use Rattle.llb_asm.specs.TextGrammar.{Hand, Items, done, single, nested, unclosed, records_of, IsWhole, AreItems, at_hand, item_at, is_within, labels_of}
use Rattle.llb_asm.specs.TextGrammar.{closing}
use Rattle.llb_asm.specs.TextGrammar.{Entries, none, raw, op, open_op, entries_of, AreClosed}
use Rattle.llb_asm.specs.LineReader.{OpenOp, Progress, at_front, between, amid, hand_of, with_item, step_in}

-- ---- after some items

abbrev pub state : Here → List ℕ → List Frame → OpenOp
state h b w = record { here = h; bytes = b; below = w }

abbrev pub frame : Here → ℕ → List ℕ → Frame
frame next number b = record { here = next; number = number; bytes = b }

abbrev pub state_after : Here → List ℕ → List Frame → Items → OpenOp
state_after h b w done = state h b w
state_after h b w (single line next bytes rest) = state_after next (b ++ bytes) w rest
state_after h b w (nested line next number sub inner rest) = state_after next (b ++ set_bytes number (records_of inner)) w rest
state_after h b w (unclosed line next number sub inner) = state_after (inside sub) [] (frame next number b ∷ w) inner

-- in an op at its start
abbrev pub state_in_op : Items → OpenOp
state_in_op t = state_after at_front.here [] [] t

-- the items fit in the message at hand there
abbrev pub AreItemsAt : List (List ℕ) → OpenOp → Items → Type 0
AreItemsAt earlier s t = AreItems (labels_of earlier) (hand_of (is_within earlier) s) t

-- the place of the next line after whole items
abbrev pub here_after : Here → Items → Here
here_after h done = h
here_after h (single line next bytes rest) = here_after next rest
here_after h (nested line next number sub inner rest) = here_after next rest
here_after h (unclosed line next number sub inner) = here_after (inside sub) inner

-- after whole items nothing is open that was not
pub state_whole : (h : Here) (b : List ℕ) (w : List Frame) (t : Items) → IsWhole t → state_after h b w t ≡ state (here_after h t) (b ++ records_of t) w
state_whole h b w done whole = ap (λ x. state h x w) (sym (append-nil b))
state_whole h b w (single line next bytes rest) whole =
    state_whole next (b ++ bytes) w rest whole ∙ ap (λ x. state (here_after next rest) x w) (append_assoc b bytes (records_of rest))
state_whole h b w (nested line next number sub inner rest) whole =
    state_whole next (b ++ set_bytes number (records_of inner)) w rest whole
    ∙ ap (λ x. state (here_after next rest) x w) (append_assoc b (set_bytes number (records_of inner)) (records_of rest))
state_whole h b w (unclosed line next number sub inner) whole = absurd whole

-- the message at hand there is the reading's
pub hand_after : (room : ℕ → Bool) (h : Here) (b : List ℕ) (w : List Frame) (t : Items)
    → hand_of room (state_after h b w t) ≡ at_hand (hand_of room (state h b w)) t
hand_after room h b w done = refl
hand_after room h b w (single line next bytes rest) = hand_after room next (b ++ bytes) w rest
hand_after room h b w (nested line next number sub inner rest) = hand_after room next (b ++ set_bytes number (records_of inner)) w rest
hand_after room h b w (unclosed line next number sub inner) = hand_after room (inside sub) [] (frame next number b ∷ w) inner

-- the items are whole, or the last of them is a message that is not closed
pub whole_or_not : (t : Items) → IsWhole t ⊎ ¬ IsWhole t
whole_or_not done = inl tt
whole_or_not (single line next bytes rest) = whole_or_not rest
whole_or_not (nested line next number sub inner rest) = whole_or_not rest
whole_or_not (unclosed line next number sub inner) = inr (λ x. x)

-- some message is open
pub record HasBelow (s : OpenOp) : Type 0 where
  pub first : Frame
  pub others : List Frame
  pub below : s.below ≡ first ∷ others

below_more : (h : Here) (b : List ℕ) (w : List Frame) (g : Frame) (t : Items) → HasBelow (state_after h b (g ∷ w) t)
below_more h b w g done = record { first = g; others = w; below = refl }
below_more h b w g (single line next bytes rest) = below_more next (b ++ bytes) w g rest
below_more h b w g (nested line next number sub inner rest) = below_more next (b ++ set_bytes number (records_of inner)) w g rest
below_more h b w g (unclosed line next number sub inner) = below_more (inside sub) [] (g ∷ w) (frame next number b) inner

-- after items that are not whole, some message is open
pub below_open : (h : Here) (b : List ℕ) (w : List Frame) (t : Items) → ¬ IsWhole t → HasBelow (state_after h b w t)
below_open h b w done not = absurd (not tt)
below_open h b w (single line next bytes rest) not = below_open next (b ++ bytes) w rest not
below_open h b w (nested line next number sub inner rest) not = below_open next (b ++ set_bytes number (records_of inner)) w rest not
below_open h b w (unclosed line next number sub inner) not = below_more (inside sub) [] w (frame next number b) inner

-- ---- after some entries

abbrev pub progress_after : List (List ℕ) → Entries → Progress
progress_after earlier none = between earlier
progress_after earlier (raw line bytes rest) = progress_after (earlier ++ bytes ∷ []) rest
progress_after earlier (op line items entry rest) = progress_after (earlier ++ entry ∷ []) rest
progress_after earlier (open_op line items) = amid earlier (state_in_op items)

-- after closed entries no op is open
pub progress_closed : (earlier : List (List ℕ)) (t : Entries) → AreClosed t → progress_after earlier t ≡ between (earlier ++ entries_of t)
progress_closed earlier none closed = ap (λ x. between x) (sym (append-nil earlier))
progress_closed earlier (raw line bytes rest) closed =
    progress_closed (earlier ++ bytes ∷ []) rest closed ∙ ap (λ x. between x) (append_assoc earlier (bytes ∷ []) (entries_of rest))
progress_closed earlier (op line items entry rest) closed =
    progress_closed (earlier ++ entry ∷ []) rest closed ∙ ap (λ x. between x) (append_assoc earlier (entry ∷ []) (entries_of rest))
progress_closed earlier (open_op line items) closed = absurd closed

-- the entries are closed, or the last of them is an op that is not
pub closed_or_not : (t : Entries) → AreClosed t ⊎ ¬ AreClosed t
closed_or_not none = inl tt
closed_or_not (raw line bytes rest) = closed_or_not rest
closed_or_not (op line items entry rest) = closed_or_not rest
closed_or_not (open_op line items) = inr (λ x. x)

-- an op is open
pub record IsAmid (p : Progress) : Type 0 where
  pub earlier : List (List ℕ)
  pub current : OpenOp
  pub is : p ≡ amid earlier current

-- after entries that are not closed, an op is open
pub progress_open : (earlier : List (List ℕ)) (t : Entries) → ¬ AreClosed t → IsAmid (progress_after earlier t)
progress_open earlier none not = absurd (not tt)
progress_open earlier (raw line bytes rest) not = progress_open (earlier ++ bytes ∷ []) rest not
progress_open earlier (op line items entry rest) not = progress_open (earlier ++ entry ∷ []) rest not
progress_open earlier (open_op line items) not = record { earlier = earlier; current = state_in_op items; is = refl }

-- ---- a line

-- a line closes, or it does not
pub closes_or_not : (line : List ℕ) → (line ≡ closing) ⊎ ((line ≢ closing) × (is_text line closing ≡ false))
closes_or_not line = go (is_text line closing) refl
  where
    go : (b : Bool) → is_text line closing ≡ b → (line ≡ closing) ⊎ ((line ≢ closing) × (is_text line closing ≡ false))
    go true e = inl (same_text line closing e)
    go false e = inr ((λ same. cc (e, ap (λ l. is_text l closing) same)), e)

pub no_closing : (line : List ℕ) → line ≢ closing → is_text line closing ≡ false
no_closing line apart = elim (closes_or_not line) [ inl e ↦ absurd (apart e) | inr x ↦ x.1 ]

-- a closing line has no space
parted_closing : parted closing ≡ None
unfolding parted
parted_closing = go (is_utf8 closing)
  where
    go : (b : Bool) → (if b then parted_at closing (position (λ c. nat_eq c 32) closing) else None) ≡ None
    go true = refl
    go false = refl

-- so a closing line is no line of a field, and adds nothing to a message
line_closing : (labels : List (List ℕ)) (h : Here) → line_in labels h closing ≡ Err (Breaks Syntax)
unfolding line_in
line_closing labels h = rw parted_closing refl

pub item_closing : (labels : List (List ℕ)) (hand : Hand) → item_at labels hand closing ≡ Err (Breaks Syntax)
item_closing labels hand = rw (line_closing labels hand.here) refl

pub item_apart : (labels : List (List ℕ)) (hand : Hand) (line : List ℕ) (i : Item) → item_at labels hand line ≡ Ok i → line ≢ closing
item_apart labels hand line i e same =
    let closes : item_at labels hand closing ≡ Ok i = subst (λ (l : List ℕ). item_at labels hand l ≡ Ok i) same e in
    let refused : item_at labels hand closing ≡ Err (Breaks Syntax) = item_closing labels hand in cc

-- what a line adds to the message at hand there
abbrev pub item_in : List (List ℕ) → OpenOp → List ℕ → Result Item Refusal
item_in earlier s line = item_at (labels_of earlier) (hand_of (is_within earlier) s) line

-- a line that is not a closing one adds its item to the message at hand, or is refused as its item is
pub step_other : (earlier : List (List ℕ)) (s : OpenOp) (line : List ℕ) → line ≢ closing
    → step_in earlier s line ≡ (item_in earlier s line >>= λ i. Ok (amid earlier (with_item s i)))
step_other earlier s line apart = rw (no_closing line apart) refl

-- a line with an item is not a closing one, and adds the item to the message at hand
pub step_item : (earlier : List (List ℕ)) (s : OpenOp) (line : List ℕ) (i : Item) → item_in earlier s line ≡ Ok i
    → step_in earlier s line ≡ Ok (amid earlier (with_item s i))
step_item earlier s line i e =
    step_other earlier s line (item_apart (labels_of earlier) (hand_of (is_within earlier) s) line i e)
    ∙ ap (λ r. r >>= λ i. Ok (amid earlier (with_item s i))) e
