-- Two spaces more.
use Rattle.std.proofs.Common.{◌≡◌, ◌++◌, ◌∷◌, [], ◌+◌, ◌*◌, ℕ, List, replicate, ap, ◌∙◌, append_assoc, arith}
use Rattle.std.proofs.lemmas.List.{replicate-append-replicate}
use Rattle.llb_asm.proofs.print.push_name.Goals as goal

two_more : (out out' before : List ℕ) (k : ℕ) → out ≡ before ++ replicate (2 * k) 32 → out' ≡ out ++ (32 ∷ 32 ∷ [])
    → out' ≡ before ++ replicate (2 * (k + 1)) 32
two_more out out' before k is more =
    let count : 2 * k + 2 ≡ 2 * (k + 1) = omega arith in
    more ∙ ap (λ l. l ++ (32 ∷ 32 ∷ [])) is ∙ append_assoc before (replicate (2 * k) 32) (32 ∷ 32 ∷ [])
    ∙ ap (λ l. before ++ l) (replicate-append-replicate (2 * k) 2 32 ∙ ap (λ n. replicate n 32) count)

all_spaces : (out out' before name : List ℕ) (k depth : ℕ) → out ≡ before ++ replicate (2 * k) 32 → k ≡ depth → out' ≡ out ++ name
    → out' ≡ before ++ (replicate (2 * depth) 32 ++ name)
all_spaces out out' before name k depth is end more =
    more ∙ ap (λ l. l ++ name) is ∙ append_assoc before (replicate (2 * k) 32) name ∙ ap (λ n. before ++ (replicate (2 * n) 32 ++ name)) end

pub loop-preserved : goal.loop-preserved
loop-preserved c =
    two_more c.loop.out.items c.extend_from_slice.new.self.items c.args.out.now.items c.loop.counter c.loop.invariant
    (c.in_ok-extend_from_slice.ensures.items ∙ ap (λ l. c.loop.out.items ++ l) c.as_slice.ensures)

pub returns : goal.returns
returns c =
    all_spaces c.loop.out.items c.extend_from_slice-2.new.self.items c.args.out.now.items c.args.name.now c.loop.counter c.args.depth c.loop.invariant
    (omega arith) c.in_ok-extend_from_slice-2.ensures.items
