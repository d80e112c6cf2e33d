use Rattle.std.proofs.Common.{ap, ◌∙◌, ◌+◌, ℕ}
use Rattle.m2v_mend.proofs.SpanLaws.{pushed, members_on}
use Rattle.m2v_mend.proofs.parts.SpanParts.push.Goals as goal

pub returns-clause-told : goal.returns-clause-told
returns-clause-told c s span some zeros at =
    let e = c.in_ok-keep.ensures in
    let long = c.is_long-long.result in
    pushed s c.args.self.now _ c.args.member c.in_ok-kept.kept long c.requires.member span some (record {
      place = e.place;
      head = e.head;
      entry = e.entry;
      bytes = c.in_ok-bytes.ensures;
      pictures = c.in_ok-pictures.ensures;
      kept_is = c.in_ok-kept.ensures ∙ ap (λ (n : ℕ). c.args.self.now.kept + n) c.kept_length.ensures.value;
      longs = e.long;
      long_is = c.is_long-long.ensures;
      members = e.members;
    }) zeros at

pub returns-clause-members : goal.returns-clause-members
returns-clause-members c =
    members_on c.args.self.now.members.items c.keep.new.self.members.items c.args.member c.is_long-long.result c.requires.members c.requires.member c.in_ok-keep.ensures.none c.in_ok-keep.ensures.members
