use Rattle.std.proofs.Common.{◌≡◌, ◌<◌, ◌≤◌, ◌↔◌, get_or, min, [], refl, ℕ, length, drop, sym, ap, subst, ◌∙◌, arith}
use Rattle.std.proofs.lemmas.Bool.{false≢true}
use Rattle.std.proofs.lemmas.List.{length_push, drop_all}
use Rattle.std.proofs.lemmas.Slice.Zip.{zip_turn, zip_end}
use Rattle.std.specs.Iterator.Adapters.{zip_first, zip_second}
use Rattle.std.specs.Slice.Iter.{iter_rest}
use Rattle.std.specs.Str.{chars}
use Rattle.llb_glob.specs.Matching.{MatchesName, Matches}
use Rattle.llb_glob.proofs.Names.{short_name}
use Rattle.llb_glob.proofs.PartwiseMatching.{same_length, matches_more, matches_not}
use Rattle.llb_glob.proofs.pattern.all_match.Goals as goal
use Rattle.llb_glob.proofs.pattern.all_match.Goals.{After-into_iter-part-iterator, In-Some}

pub returns-then-parts-names : goal.returns-then-parts-names
returns-then-parts-names c = (λ none. absurd (false≢true none), λ m. absurd (omega (arith, same_length c.args.parts.now c.args.names.now m)))

pub matches-requires : goal.matches-requires
matches-requires c = subst (λ name. length name ≤ 255) (sym c.as_str.ensures.value) (short_name _ c.as_str.ensures.name)

pub loop-part-init : goal.loop-part-init
loop-part-init c = (λ m. m, λ m. m)

-- the loop goes over the parts and the names
parts_first : (c : After-into_iter-part-iterator) → iter_rest (zip_first c.into_iter-part-iterator.result) ≡ c.args.parts.now
parts_first c =
    ap (λ z. iter_rest (zip_first z)) c.into_iter-part-iterator.ensures.into_iter_gives
    ∙ ap iter_rest c.zip-part-items.ensures.first
    ∙ c.iter.ensures.rest

names_second : (c : After-into_iter-part-iterator) → iter_rest (zip_second c.into_iter-part-iterator.result) ≡ c.args.names.now
names_second c =
    ap (λ z. iter_rest (zip_second z)) c.into_iter-part-iterator.ensures.into_iter_gives
    ∙ c.zip-part-items.ensures.second.0

-- the place of the part and the name at hand
record Turn (c : In-Some) : Type 0 where
  in_parts : length c.loop-part.yielded < length c.args.parts.now
  in_path : length c.loop-part.yielded < length c.args.names.now
  part : c.in-Some.part.now ≡ get_or c.args.parts.now (length c.loop-part.yielded) c.in-Some.part.now
  name : c.in-Some.name.now ≡ get_or c.args.names.now (length c.loop-part.yielded) c.in-Some.name.now

turn :
    (c : In-Some)
    → iter_rest (zip_first c.into_iter-part-iterator.result) ≡ c.args.parts.now
    → iter_rest (zip_second c.into_iter-part-iterator.result) ≡ c.args.names.now
    → Turn c
turn c first second =
    let t =
    zip_turn c.args.parts.now c.args.names.now c.loop-part.yielded c.into_iter-part-iterator.result c.loop-part.part-iterator c.next.new.self c.next.result
    first second c.loop-part.yielded_by _ c.in-Some.is c.next.ensures.steps in
    record { in_parts = t.0; in_path = t.1; part = t.2 _; name = t.3 _ }

pub returns-then-not-matches : goal.returns-then-not-matches
returns-then-not-matches c =
    let before = (goal.at.returns-then-not-matches c).After-into_iter-part-iterator in
    let t = turn (goal.at.returns-then-not-matches c).In-Some (parts_first before) (names_second before) in
    let part = c.in-Some.part.now in
    let not : MatchesName part (chars c.in-Some.name.now) → ⊥ =
    λ m. false≢true (sym c.if-not-matches.true ∙ c.matches.ensures.1 (subst (λ name. MatchesName part (chars name)) (sym c.as_str.ensures.value) m)) in
    let none =
    matches_not c.args.parts.now c.args.names.now (length c.loop-part.yielded) part c.in-Some.name.now t.in_parts t.in_path t.part t.name
    c.loop-part.invariant not in
    (λ no. absurd (false≢true no), λ m. absurd (none m))

pub loop-part-preserved : goal.loop-part-preserved
loop-part-preserved c =
    let before = (goal.at.loop-part-preserved c).After-into_iter-part-iterator in
    let t = turn (goal.at.loop-part-preserved c).In-Some (parts_first before) (names_second before) in
    let part = c.in-Some.part.now in
    let matched = subst (λ name. MatchesName part (chars name)) c.as_str.ensures.value (c.matches.ensures.0 c.if-not-matches.false) in
    let more =
    matches_more c.args.parts.now c.args.names.now (length c.loop-part.yielded) part c.in-Some.name.now t.in_parts t.in_path t.part t.name
    c.loop-part.invariant matched in
    let So_far : ℕ → Type 0 = λ k. Matches (drop k c.args.parts.now) (drop k c.args.names.now) ↔ Matches c.args.parts.now c.args.names.now in
    subst So_far (sym (length_push c.loop-part.yielded (c.in-Some.part, c.in-Some.name))) more

pub returns : goal.returns
returns c =
    let before = (goal.at.returns c).After-into_iter-part-iterator in
    let so_far = length c.loop-part.yielded in
    let ended : so_far ≡ min (length c.args.parts.now) (length c.args.names.now) =
    zip_end c.args.parts.now c.args.names.now c.loop-part.yielded c.into_iter-part-iterator.result c.loop-part.part-iterator c.next.new.self c.next.result
    (parts_first before) (names_second before) c.loop-part.yielded_by c.in-None.is c.next.ensures.steps in
    let long : length c.args.parts.now ≡ length c.args.names.now = omega arith in
    let parts : drop so_far c.args.parts.now ≡ [] = drop_all so_far c.args.parts.now (omega arith) in
    let names : drop so_far c.args.names.now ≡ [] = drop_all so_far c.args.names.now (omega arith) in
    let all : Matches c.args.parts.now c.args.names.now = c.loop-part.invariant.0 (rw (parts, names) tt) in
    (λ _. all, λ _. refl)
