use Rattle.std.proofs.Common.{◌≡◌, map, take}
use Rattle.llb_model.specs.Program.{mount_of}
use Rattle.llb_board.specs.CacheNeeds.{need_of}
use Rattle.llb_board.proofs.workers.cache_needs.mount_numbers.Given as goal

abbrev pub invariant-loop-want : goal.invariant-loop-want
invariant-loop-want l = l.numbers.items ≡ map mount_of (map need_of (take l.want-index l.wanted))
