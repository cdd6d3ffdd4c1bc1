-- Each row of the table is found by its number and by its name, which computes for each message.
use Rattle.std.proofs.Common.{refl}
use Rattle.llb_ops.specs.declared.table.MessageName.{MessageName}
use Rattle.llb_ops.specs.declared.table.MessageName.TheVariants as name
use Rattle.llb_ops.specs.Table.{row_numbered, row_named, AreRowsApart}

-- each row of a message is found by its number and by its name
pub rows_found : (m : MessageName) → AreRowsApart m
unfolding row_numbered row_named
rows_found name.Definition = (record { number = refl; name = refl }, (record { number = refl; name = refl }, (record { number = refl; name = refl }, tt)))
rows_found name.Op = (
  record { number = refl; name = refl },
  (
    record { number = refl; name = refl },
    (
      record { number = refl; name = refl },
      (
        record { number = refl; name = refl },
        (
          record { number = refl; name = refl },
          (
            record { number = refl; name = refl },
            (record { number = refl; name = refl }, tt),
          ),
        ),
      ),
    ),
  ),
)
rows_found name.Input = (record { number = refl; name = refl }, (record { number = refl; name = refl }, tt))
rows_found name.SourceOp = (record { number = refl; name = refl }, (record { number = refl; name = refl }, tt))
rows_found name.AttributeEntry = (record { number = refl; name = refl }, (record { number = refl; name = refl }, tt))
rows_found name.FileOp = (record { number = refl; name = refl }, tt)
rows_found name.FileAction = (
  record { number = refl; name = refl },
  (
    record { number = refl; name = refl },
    (
      record { number = refl; name = refl },
      (
        record { number = refl; name = refl },
        (
          record { number = refl; name = refl },
          (
            record { number = refl; name = refl },
            (record { number = refl; name = refl }, tt),
          ),
        ),
      ),
    ),
  ),
)
rows_found name.FileActionCopy = (
  record { number = refl; name = refl },
  (
    record { number = refl; name = refl },
    (
      record { number = refl; name = refl },
      (
        record { number = refl; name = refl },
        (
          record { number = refl; name = refl },
          (
            record { number = refl; name = refl },
            (
              record { number = refl; name = refl },
              (
                record { number = refl; name = refl },
                (
                  record { number = refl; name = refl },
                  (
                    record { number = refl; name = refl },
                    (
                      record { number = refl; name = refl },
                      (
                        record { number = refl; name = refl },
                        (record { number = refl; name = refl }, tt),
                      ),
                    ),
                  ),
                ),
              ),
            ),
          ),
        ),
      ),
    ),
  ),
)
rows_found name.FileActionMkFile = (
  record { number = refl; name = refl },
  (
    record { number = refl; name = refl },
    (
      record { number = refl; name = refl },
      (record { number = refl; name = refl }, (record { number = refl; name = refl }, tt)),
    ),
  ),
)
rows_found name.FileActionMkDir = (
  record { number = refl; name = refl },
  (
    record { number = refl; name = refl },
    (
      record { number = refl; name = refl },
      (record { number = refl; name = refl }, (record { number = refl; name = refl }, tt)),
    ),
  ),
)
rows_found name.FileActionRm = (record { number = refl; name = refl }, (record { number = refl; name = refl }, (record { number = refl; name = refl }, tt)))
rows_found name.ChownOpt = (record { number = refl; name = refl }, (record { number = refl; name = refl }, tt))
rows_found name.UserOpt = (record { number = refl; name = refl }, (record { number = refl; name = refl }, tt))
rows_found name.ExecOp = (
  record { number = refl; name = refl },
  (
    record { number = refl; name = refl },
    (
      record { number = refl; name = refl },
      (record { number = refl; name = refl }, (record { number = refl; name = refl }, tt)),
    ),
  ),
)
rows_found name.Meta = (
  record { number = refl; name = refl },
  (
    record { number = refl; name = refl },
    (
      record { number = refl; name = refl },
      (record { number = refl; name = refl }, tt),
    ),
  ),
)
rows_found name.Mount = (
  record { number = refl; name = refl },
  (
    record { number = refl; name = refl },
    (
      record { number = refl; name = refl },
      (
        record { number = refl; name = refl },
        (
          record { number = refl; name = refl },
          (
            record { number = refl; name = refl },
            (record { number = refl; name = refl }, (record { number = refl; name = refl }, tt)),
          ),
        ),
      ),
    ),
  ),
)
rows_found name.TmpfsOpt = (record { number = refl; name = refl }, tt)
rows_found name.CacheOpt = (record { number = refl; name = refl }, (record { number = refl; name = refl }, tt))
rows_found name.MergeOp = (record { number = refl; name = refl }, tt)
rows_found name.MergeInput = (record { number = refl; name = refl }, tt)
