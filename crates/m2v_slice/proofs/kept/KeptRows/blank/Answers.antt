use Rattle.m2v_slice.proofs.KeptLines.{kept_count, kept_dims}
use Rattle.m2v_slice.proofs.kept.KeptRows.blank.Goals as goal

pub returns-clause-count : goal.returns-clause-count
returns-clause-count c = kept_count c.args.dims c.in_ok-vec.field-0.items c.in_ok-vec-2.field-0.items c.in_ok-vec-3.field-0.items

pub returns-clause-size : goal.returns-clause-size
returns-clause-size c = kept_dims c.args.dims c.in_ok-vec.field-0.items c.in_ok-vec-2.field-0.items c.in_ok-vec-3.field-0.items
