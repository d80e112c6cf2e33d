use Rattle.std.proofs.Common.{◌+◌, refl, sym, ap, subst, ◌∙◌, Option}
use Rattle.std.specs.Prelude.{IsSome}
use Rattle.m2v_plane.specs.Samples.{Samples}
use Rattle.m2v_plane.specs.Sizes.{IsSize}
use Rattle.m2v_slice.specs.Books.{Book, reference_picture}
use Rattle.m2v_slice.proofs.Stands.{in_before, in_cache, not_absent, before_line, before_column, before_value, line_small, held_line, held_column, held_value}
use Rattle.m2v_slice.proofs.window.ReferenceWindowRefView.line.Goals as goal

pub line_before-requires-clause-some : goal.line_before-requires-clause-some
line_before-requires-clause-some c =
    let w = c.args.self.now in
    let h = in_before w.book w.picture w.row (reference_picture w.book w.picture w.number c.args.lines) c.args.plane c.args.lines c.args.line
    c.in-Before.ensures.value c.requires.held.1 in
    subst (λ (o : Option Samples). IsSome o) (sym (c.before-in-Before.ensures.value ∙ ap (λ (b : Book). b.before) c.book.ensures.value)) h.some

pub line_before-requires-clause-line : goal.line_before-requires-clause-line
line_before-requires-clause-line c =
    before_line c.args.self.now.book c.book.ensures.book c.before-in-Before.result.now c.args.plane c.args.lines c.args.line
    (c.before-in-Before.ensures.value ∙ ap (λ (b : Book). b.before) c.book.ensures.value) c.requires.held.0

pub line_before-requires-clause-within : goal.line_before-requires-clause-within
line_before-requires-clause-within c =
    before_column c.args.self.now.book c.book.ensures.book c.before-in-Before.result.now c.args.plane (c.args.column + c.args.len)
    (c.before-in-Before.ensures.value ∙ ap (λ (b : Book). b.before) c.book.ensures.value) c.requires.within

pub line_among-line-requires : goal.line_among-line-requires
line_among-line-requires c = record {
  small = line_small _ c.args.plane c.args.lines c.args.line (subst IsSize c.dims-size.ensures.value c.dims-size.ensures.size) c.requires.held.0;
}

pub line_cached-requires-clause-held : goal.line_cached-requires-clause-held
line_cached-requires-clause-held c =
    let w = c.args.self.now in
    let o = reference_picture w.book w.picture w.number c.args.lines in
    let h = in_cache w.book w.picture w.row o c.in-Cached.place c.in-Cached.whole c.args.plane c.args.lines c.args.line c.in-Cached.ensures.value c.requires.held.1 in
    held_line w.book w.picture w.row c.cache.result.now c.cache.ensures.rows c.cache.ensures.fits o c.in-Cached.place c.in-Cached.whole c.args.plane c.args.lines c.args.line h
    c.first.result c.line_among-line.result c.first.ensures.value c.line_among-line.ensures.value

pub line_cached-requires-clause-within : goal.line_cached-requires-clause-within
line_cached-requires-clause-within c =
    let w = c.args.self.now in
    let o = reference_picture w.book w.picture w.number c.args.lines in
    let h = in_cache w.book w.picture w.row o c.in-Cached.place c.in-Cached.whole c.args.plane c.args.lines c.args.line c.in-Cached.ensures.value c.requires.held.1 in
    held_column w.book w.picture w.row c.cache.result.now c.cache.ensures.rows c.cache.ensures.fits o c.in-Cached.place c.in-Cached.whole c.args.plane c.args.lines c.args.line h
    c.first.result c.line_among-line.result (c.args.column + c.args.len) c.first.ensures.value c.line_among-line.ensures.value c.requires.within

pub returns-in-Before : goal.returns-in-Before
returns-in-Before c =
    let w = c.args.self.now in
    let o = reference_picture w.book w.picture w.number c.args.lines in
    let h = in_before w.book w.picture w.row o c.args.plane c.args.lines c.args.line c.in-Before.ensures.value c.requires.held.1 in
    record {
      value = c.line_before.ensures.value
          ∙ before_value w.book w.picture w.number c.before-in-Before.result.now c.args.plane c.args.lines c.args.line c.args.column c.args.len h.none
          (c.before-in-Before.ensures.value ∙ ap (λ (b : Book). b.before) c.book.ensures.value);
    }

pub returns-in-Cached : goal.returns-in-Cached
returns-in-Cached c =
    let w = c.args.self.now in
    let o = reference_picture w.book w.picture w.number c.args.lines in
    let h = in_cache w.book w.picture w.row o c.in-Cached.place c.in-Cached.whole c.args.plane c.args.lines c.args.line c.in-Cached.ensures.value c.requires.held.1 in
    record {
      value = c.line_cached.ensures.value
          ∙ held_value w.book w.picture w.row c.cache.result.now c.cache.ensures.rows c.cache.ensures.fits o c.in-Cached.place c.in-Cached.whole c.args.plane c.args.lines c.args.line h
          w.number c.first.result c.line_among-line.result c.args.column c.args.len c.first.ensures.value c.line_among-line.ensures.value refl;
    }

pub returns-in-Absent : goal.returns-in-Absent
returns-in-Absent c =
    let w = c.args.self.now in
    absurd (not_absent w.book w.picture w.row (reference_picture w.book w.picture w.number c.args.lines) c.args.plane c.args.lines c.args.line
    c.in-Absent.ensures.value c.requires.held.1)
