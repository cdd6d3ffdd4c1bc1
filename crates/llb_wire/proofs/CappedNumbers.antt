-- `capped` keeps a number below 2^64 as it is, and makes 2^64 - 1 of any other number.
use Rattle.std.proofs.Common.{◌≡◌, ℕ, ◌-◌, ◌^◌, ◌<◌, ◌≤◌, cond, ap}
use Rattle.std.proofs.lemmas.Bool.{lt-ltb, le-ltb}
use Rattle.llb_wire.specs.Decimal.{capped}

pub capped_low : (n : ℕ) → n < 2 ^ 64 → capped n ≡ n
capped_low n lt = ap (λ t. cond t n (2 ^ 64 - 1)) (lt-ltb n (2 ^ 64) lt)

pub capped_high : (n : ℕ) → 2 ^ 64 ≤ n → capped n ≡ 2 ^ 64 - 1
capped_high n le = ap (λ t. cond t n (2 ^ 64 - 1)) (le-ltb n (2 ^ 64) le)
