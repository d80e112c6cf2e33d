use Rattle.m2v_encode.proofs.Anchors.{anchor_below, anchor_there, anchor_made}
use Rattle.m2v_encode.proofs.done.DoneGroup.anchor.Goals as goal

pub rebuilt-requires : goal.rebuilt-requires
rebuilt-requires c = record { frame = anchor_below c.args.self.now c.pictures-book.ensures.book c.last_anchor.result c.in-Some.k c.last_anchor.ensures.value c.in-Some.is }

pub returns-in_ok-rebuilt-in-Some : goal.returns-in_ok-rebuilt-in-Some
returns-in_ok-rebuilt-in-Some c = record { value = anchor_made c.args.self.now c.last_anchor.result c.in-Some.k _ c.last_anchor.ensures.value c.in-Some.is c.in_ok-rebuilt-in-Some.ensures.value }

pub returns-in-None : goal.returns-in-None
returns-in-None c = absurd (anchor_there c.args.self.now c.pictures-book.ensures.book c.last_anchor.result c.last_anchor.ensures.value c.in-None.is)
