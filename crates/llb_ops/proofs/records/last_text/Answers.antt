use Rattle.std.proofs.Common.{sym, subst}
use Rattle.std.specs.Str.{IsUtf8}
use Rattle.std.proofs.lemmas.Str.{IsUtf8-from_is_utf8}
use Rattle.llb_ops.specs.Table.{shape_of}
use Rattle.llb_ops.specs.Records.{views}
use Rattle.llb_ops.proofs.TextValidity.{text_is_utf8}
use Rattle.llb_ops.proofs.records.last_text.Goals as goal

pub from_utf8_unchecked-requires : goal.from_utf8_unchecked-requires
from_utf8_unchecked-requires c =
    subst IsUtf8 (sym c.last_payload-payload.ensures)
    (IsUtf8-from_is_utf8 _ (text_is_utf8 (shape_of c.args.message) c.args.number (views c.args.records.now) c.requires.named c.requires.texts))
