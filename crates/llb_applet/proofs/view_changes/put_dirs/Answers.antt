-- The chain that is grafted is what the directories are one by one.
use Rattle.llb_tree.specs.PathEntries.{seen}
use Rattle.llb_applet.proofs.DirectoryChains.{put_at_once, not_there}
use Rattle.llb_applet.proofs.view_changes.put_dirs.Goals as goal

pub returns-clause-gives : goal.returns-clause-gives
returns-clause-gives c =
    let none = not_there seen c.get.result _ c.is_some.result c.is_some.ensures c.if-is_some.false c.get.ensures.found in
    put_at_once c.args.tree.now c.get.ensures.tree c.args.path.now c.args.names.now c.in_ok-made.made c.graft.new.self c.requires.short none
    c.in_ok-made.ensures c.graft.result c.graft.ensures.gives c.graft.ensures.inside c.graft.ensures.outside
