use Rattle.m2v_mend.proofs.Headed.{header_fault, header_waits, header_told}
use Rattle.m2v_mend.proofs.header.read_header.Goals as goal

pub returns-in-Err-Stream : goal.returns-in-Err-Stream
returns-in-Err-Stream c =
    header_fault c.args.piece.now c.new-reader.result c.in-Err-Stream.field-0 c.in-Err-Stream._fault c.new-reader.ensures c.in-Err-Stream.field-0-is c.in-Err-Stream.ensures.err

pub returns-then-waits : goal.returns-then-waits
returns-then-waits c =
    header_waits c.args.piece.now c.new-reader.result c.in-Ok._notes c.piece.new.self c.waits.result c.new-reader.ensures c.in-Ok.ensures.ok c.waits.ensures c.if-waits.true

pub returns : goal.returns
returns c =
    header_told c.args.piece.now c.new-reader.result c.in-Ok._notes c.piece.new.self c.waits.result c.first.result c.new-reader.ensures c.in-Ok.ensures.ok c.waits.ensures c.if-waits.false c.first.ensures
