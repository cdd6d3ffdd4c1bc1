use Rattle.llb_cache.specs.Caches.{CachesValue}
use Rattle.llb_cache.proofs.ExactMarks.{put_marked}
use Rattle.llb_cache.proofs.caches.Caches.set_content.Goals as goal

pub invariant_of-self : goal.invariant_of-self
invariant_of-self c =
    let before : CachesValue = record { rows = c.self.inside.rows.entries.items; out = c.self.inside.out.items } in (
      put_marked before c.index-places_at-need.result c.args.tree c.self.inside.marks.items c.set_at.new.rows.entries.items
          c.set_at.ensures.rows c.set_at.ensures.keys c.self.invariant.0,
      c.set_at.ensures.order,
    )
