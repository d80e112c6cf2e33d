use Rattle.std.specs.Option.{option_map}
use Rattle.m2v_mend.proofs.SpanLaws.{kept_on, some_more}
use Rattle.m2v_mend.proofs.parts.SpanParts.keep.Goals as goal

pub invariant_of-self-2 : goal.invariant_of-self-2
invariant_of-self-2 c =
    let old = c.args.self.now in
    let off = c.requires.long c.if-long.false in
    let items = c.in_ok-push.ensures.items in
    record {
      some = λ e. some_more old.members.items _ c.args.member items;
      kept_is = λ e. kept_on (option_map (λ v. v.items) old.head) old.members.items _ c.args.member old.kept c.args.kept (old.some off) items (old.kept_is off) (c.requires.kept c.if-long.false);
    }
