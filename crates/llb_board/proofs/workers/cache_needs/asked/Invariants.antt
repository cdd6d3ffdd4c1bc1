use Rattle.std.proofs.Common.{◌≡◌, map, take}
use Rattle.llb_model.specs.TwoCacheModels.{asked}
use Rattle.llb_board.specs.CacheNeeds.{need_of}
use Rattle.llb_board.proofs.workers.cache_needs.asked.Given as goal

abbrev pub invariant-loop-want : goal.invariant-loop-want
invariant-loop-want l = l.needs.items ≡ asked l.inputs (map need_of (take l.want-index l.wanted))
