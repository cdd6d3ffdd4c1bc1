use Rattle.std.proofs.Common.{◌≡◌, ◌+◌, ◌++◌, ◌∷◌, ℤ, List, map, sym, ap, ◌∙◌, subst, arith, to_z, of_z, w64}
use Rattle.std.specs.List.{All}
use Rattle.std.proofs.lemmas.Int.{to_z-of_z}
use Rattle.std.proofs.lemmas.List.Elements.{All-push}
use Rattle.llb_loader.specs.Mounts.{key_of}
use Rattle.llb_model.specs.Program.{Need}
use Rattle.llb_board.specs.declared.workers.cache_needs.Wanted.{Wanted}
use Rattle.llb_board.specs.CacheNeeds.{IsFound, need_of}
use Rattle.llb_board.proofs.NeedsOfRemainingMounts.{needs_left, needs_next, none_shown, one_shown, one_more}
use Rattle.llb_board.proofs.workers.cache_needs.wants.Goals as goal

pub loop-i-preserved-in_default : goal.loop-i-preserved-in_default
loop-i-preserved-in_default c =
    let v = c.args.vertex.now in
    let i = c.loop-i.i in
    let m = c.mount-item.result in
    let step = needs_next v _ i m c.loop-i.invariant.mounts c.loop-i-test.true c.mount-item.is
    ∙ none_shown i m (key_of v.op.inputs m) (needs_left v (i + 1)) (sym c.in_default.is ∙ c.key_shown.ensures) in
    record {
      mounts = c.loop-i.invariant.mounts;
      so_far = ap (λ (ns : List Need). map need_of c.loop-i.wanted.items ++ ns) (sym step) ∙ c.loop-i.invariant.so_far;
      found = c.loop-i.invariant.found;
    }

pub loop-i-preserved : goal.loop-i-preserved
loop-i-preserved c =
    let v = c.args.vertex.now in
    let i = c.loop-i.i in
    let m = c.mount-item.result in
    let own : to_z w64 (of_z w64 m.input) ≡ m.input = grind (arith, to_z-of_z) in
    let w : Wanted = record { mount = i; key = c.in-Some.key; input = to_z w64 (of_z w64 m.input); found = c.look_up-found.result } in
    let with_input : ℤ → List Need = λ z. map need_of c.loop-i.wanted.items ++ record { mount = i; key = c.in-Some.key; input = z } ∷ needs_left v (i + 1) in
    let step = needs_next v _ i m c.loop-i.invariant.mounts c.loop-i-test.true c.mount-item.is
    ∙ one_shown i m (key_of v.op.inputs m) (needs_left v (i + 1)) c.in-Some.key (sym c.in-Some.is ∙ c.key_shown.ensures) in
    record {
      mounts = c.loop-i.invariant.mounts;
      so_far = ap (λ (ws : List Wanted). map need_of ws ++ needs_left v (i + 1)) c.in_ok-push.ensures.items
          ∙ one_more c.loop-i.wanted.items w (needs_left v (i + 1)) ∙ ap with_input own
          ∙ ap (λ (ns : List Need). map need_of c.loop-i.wanted.items ++ ns) (sym step) ∙ c.loop-i.invariant.so_far;
      found = subst (λ (ws : List Wanted). All (IsFound c.args.caches.now) ws) (sym c.in_ok-push.ensures.items)
          (All-push (IsFound c.args.caches.now) c.loop-i.wanted.items w c.loop-i.invariant.found
          (record { number = c.look_up-found.ensures.number; tree = c.look_up-found.ensures.tree }));
    }
