use Rattle.std.proofs.Common.{◌≡◌, true, [], Option, sym, ap, subst, ◌∙◌, refl, length}
use Rattle.m2v_law_seam.specs.Seams.{has_own_head}
use Rattle.m2v_law_seam.specs.Mending.{low_of_span}
use Rattle.m2v_mend.specs.Making.{IsUnder}
use Rattle.m2v_mend.specs.declared.behind.NotPut.{NotPut}
use Rattle.m2v_mend.specs.Putting.{PutTold, why_not}
use Rattle.m2v_mend.specs.Strand.{StrandState}
use Rattle.m2v_mend.proofs.Put.{short_is, not_under, can_put, low_is, told_as, refused_as, put_as_told}
use Rattle.m2v_mend.proofs.mender.Mender.put.Goals as goal
use Rattle.m2v_mend.proofs.mender.Mender.put.Goals.{else-bytes-eq0-via-then-bytes-eq0+else-not-begins_with_header, else-bytes-eq0-via-else-bytes-eq0}

pub returns-then-not-begins_with_header-clause-told :
    goal.returns-then-not-begins_with_header-clause-told
returns-then-not-begins_with_header-clause-told c = λ written listed m s is span stretch next.
    let u = subst (IsUnder m) (sym c.take.ensures.value ∙ c.in-Some.is) is.strand in
    let header = c.begins_with_header.ensures s span c.requires.short in
    let p = not_under m s c.in-Some.strand u stretch (short_is s c.args.parts span c.requires.short) (sym c.bytes.ensures.value ∙ c.if-bytes-eq0.true) (sym header ∙ c.if-not-begins_with_header.true) in
    (p.0, p.1, record { is = ap (λ (o : Option StrandState). record c.args.self.now { strand = o }) c.take.ensures.after; out = refl })

pub returns-in-Some-2-clause-told : goal.returns-in-Some-2-clause-told
returns-in-Some-2-clause-told c = λ written listed m s is span stretch next.
    let u = subst (IsUnder m) (sym c.take.ensures.value ∙ c.in-Some.is) is.strand in
    let short = short_is s c.args.parts span c.requires.short in
    let own : u.0 ≡ [] → has_own_head s.pieces ≡ true = λ none. elim c.else-bytes-eq0.branch [
      | else-bytes-eq0-via-then-bytes-eq0+else-not-begins_with_header w ↦ let header = w.begins_with_header.ensures s span c.requires.short in sym header ∙ w.if-not-begins_with_header.false
      | else-bytes-eq0-via-else-bytes-eq0 w ↦ absurd (w.if-bytes-eq0.false (c.bytes.ensures.value ∙ (u.2).length_is ∙ ap length none))
    ] in
    let can = can_put m u.0 s u.1 next own in
    let low = low_is s.pieces c.begins_with_group.result c.args.self.now.low m.low c.lowered_behind-low.result stretch.pieces (c.begins_with_group.ensures s span c.requires.short) is.low c.lowered_behind-low.ensures in
    let told = told_as m s c.in-Some.strand c.put_behind.new.strand c.args.self.now.first c.lowered_behind-low.result u.0 c.args.self.now.out.items c.put_behind.new.out.items (why_not c.in_ok-not.field-0) u.2 u.3 is.first low u.4 (c.in_ok-not.ensures.told s u.0 span c.requires.short stretch u.2 can) in
    let refused = subst (λ (o : Option NotPut). PutTold m.opening m.first u.0 (low_of_span m s) s c.args.self.now.out.items c.put_behind.new.out.items (why_not o) c.put_behind.new.strand) c.in-Some-2.is told in
    let r = refused_as m s c.put_behind.new.strand u.0 c.args.self.now.out.items c.put_behind.new.out.items c.in-Some-2.not.fault u.1 short can refused in
    (r.0, r.1, record { is = ap (λ (o : Option StrandState). record c.args.self.now { strand = o; out = c.put_behind.new.out }) c.take.ensures.after; out = refused.2 })

pub returns-in-None-clause-told : goal.returns-in-None-clause-told
returns-in-None-clause-told c = λ written listed m s is span stretch next.
    let u = subst (IsUnder m) (sym c.take.ensures.value ∙ c.in-Some.is) is.strand in
    let short = short_is s c.args.parts span c.requires.short in
    let own : u.0 ≡ [] → has_own_head s.pieces ≡ true = λ none. elim c.else-bytes-eq0.branch [
      | else-bytes-eq0-via-then-bytes-eq0+else-not-begins_with_header w ↦ let header = w.begins_with_header.ensures s span c.requires.short in sym header ∙ w.if-not-begins_with_header.false
      | else-bytes-eq0-via-else-bytes-eq0 w ↦ absurd (w.if-bytes-eq0.false (c.bytes.ensures.value ∙ (u.2).length_is ∙ ap length none))
    ] in
    let can = can_put m u.0 s u.1 next own in
    let low = low_is s.pieces c.begins_with_group.result c.args.self.now.low m.low c.lowered_behind-low.result stretch.pieces (c.begins_with_group.ensures s span c.requires.short) is.low c.lowered_behind-low.ensures in
    let told = told_as m s c.in-Some.strand c.put_behind.new.strand c.args.self.now.first c.lowered_behind-low.result u.0 c.args.self.now.out.items c.put_behind.new.out.items (why_not c.in_ok-not.field-0) u.2 u.3 is.first low u.4 (c.in_ok-not.ensures.told s u.0 span c.requires.short stretch u.2 can) in
    let put = subst (λ (o : Option NotPut). PutTold m.opening m.first u.0 (low_of_span m s) s c.args.self.now.out.items c.put_behind.new.out.items (why_not o) c.put_behind.new.strand) c.in-None.is told in
    let shape = ap (λ (o : Option StrandState). record c.args.self.now { strand = o; out = c.put_behind.new.out }) c.take.ensures.after in
    put_as_told written listed m s c.args.self.now (record c.args.self.now { strand = c.take.new.self; out = c.put_behind.new.out }) c.go_on.new.self c.put_behind.new.strand c.lowered_behind-low.result u.0 is u.1 short low shape put (c.go_on.ensures.told s (c.in_ok-groups.ensures s span))
