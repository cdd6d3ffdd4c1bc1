-- A board after one event more.
use Rattle.std.proofs.Common.{◌≡◌, List, [], ◌∷◌, ◌++◌, Option, Some, None, option_map, refl, sym, ap, ◌∙◌}
use Rattle.llb_model.specs.State.{State}
use Rattle.llb_events.specs.declared.event.Event.{Event}
use Rattle.llb_model.specs.Table.{Reply, table}
use Rattle.llb_board.specs.BoardValue.{BoardValue, after_event}
use Rattle.llb_stepper.specs.Stepping.{answered, then_on}

pub record Grew (before b : BoardValue) (e : Event) (r : Reply) : Type 0 where
  pub build : b.build ≡ before.build
  pub opened : b.opening ≡ before.opening
  pub first : b.first ≡ before.first
  pub events : b.events ≡ before.events ++ e ∷ []
  pub granted : table before.build before.state e ≡ Some (b.state, r)

pub grew : (before b : BoardValue) (e : Event) (r : Reply) → answered before e ≡ Some (b, r) → Grew before b e r
grew before b e r given = by_table (table before.build before.state e) refl given
  where
    by_table : (o : Option (State × Reply)) → table before.build before.state e ≡ o
        → option_map {U = BoardValue × Reply} (λ a. (after_event before e a.0, a.1)) o ≡ Some (b, r) → Grew before b e r
    by_table None at is = absurd cc
    by_table (Some a) at is =
        let same : (let p : BoardValue × Reply = (after_event before e a.0, a.1) in p) ≡ (b, r) = cc in
        record {
          build = ap (λ (p : BoardValue × Reply). p.0.build) (sym same);
          opened = ap (λ (p : BoardValue × Reply). p.0.opening) (sym same);
          first = ap (λ (p : BoardValue × Reply). p.0.first) (sym same);
          events = ap (λ (p : BoardValue × Reply). p.0.events) (sym same);
          granted = at ∙ ap (λ (p : BoardValue × Reply). Some (p.0.state, p.1)) same;
        }

pub shifted : (xs : List Event) (e : Event) (es : List Event) → (xs ++ e ∷ []) ++ es ≡ xs ++ e ∷ es
shifted [] e es = refl
shifted (x ∷ xs) e es = ap (λ l. x ∷ l) (shifted xs e es)

-- what goes on from a result that there is
pub went : (o : Option (BoardValue × Reply)) (go : BoardValue → Option BoardValue) (c : BoardValue) → then_on o go ≡ Some c → (p : BoardValue × Reply)
    × (o ≡ Some p) × (go p.0 ≡ Some c)
went None go c e = absurd cc
went (Some p) go c e = (p, refl, e)
