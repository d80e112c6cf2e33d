use Rattle.std.proofs.Common.{◌≡◌, ◌+◌, ◌*◌, ◌/◌, ◌<◌, ◌≤◌, ℕ, List, length, get_or, refl, sym, ap, subst, ◌∙◌, arith}
use Rattle.std.proofs.lemmas.Option.{IfSome_then}
use Rattle.m2v_plane.specs.declared.dims.Dims.{Dims}
use Rattle.m2v_plane.specs.Fields.{no_samples}
use Rattle.m2v_plane.specs.Samples.{Samples, line_part}
use Rattle.m2v_plane.specs.Sizes.{side, columns_of}
use Rattle.m2v_slice.specs.Kept.{kept_at}
use Rattle.m2v_slice.specs.Books.{Book, reference_picture}
use Rattle.m2v_slice.specs.Windows.{HoldsLine}
use Rattle.m2v_slice.proofs.Stands.{in_before, in_cache, before_value, held_line, kept_below, kept_value}
use Rattle.m2v_slice.proofs.window.ReferenceWindowRefView.window.Goals as goal

pub line_kept-there-requires-clause-least : goal.line_kept-there-requires-clause-least
line_kept-there-requires-clause-least c =
    let w = c.args.self.now in
    let o = reference_picture w.book w.picture w.number c.args.lines in
    let none : c.args.parts.line + 0 ≡ c.args.parts.line = omega arith in
    let holds = subst (λ (n : ℕ). HoldsLine w.book w.picture w.number w.row c.args.plane c.args.lines n) none (c.requires.held 0 c.requires.some) in
    let h = in_cache w.book w.picture w.row o c.in-Cached.place c.in-Cached.whole c.args.plane c.args.lines c.args.parts.line c.in-Cached.ensures.value holds.1 in
    (held_line w.book w.picture w.row c.cache.result.now c.cache.ensures.rows c.cache.ensures.fits o c.in-Cached.place c.in-Cached.whole c.args.plane c.args.lines c.args.parts.line h
    c.first.result c.line_among-line.result c.first.ensures.value c.line_among-line.ensures.value).least

pub line_kept-there-requires-clause-most : goal.line_kept-there-requires-clause-most
line_kept-there-requires-clause-most c =
    let w = c.args.self.now in
    let o = reference_picture w.book w.picture w.number c.args.lines in
    let none : c.args.parts.line + 0 ≡ c.args.parts.line = omega arith in
    let holds = subst (λ (n : ℕ). HoldsLine w.book w.picture w.number w.row c.args.plane c.args.lines n) none (c.requires.held 0 c.requires.some) in
    let h = in_cache w.book w.picture w.row o c.in-Cached.place c.in-Cached.whole c.args.plane c.args.lines c.args.parts.line c.in-Cached.ensures.value holds.1 in
    let held = held_line w.book w.picture w.row c.cache.result.now c.cache.ensures.rows c.cache.ensures.fits o c.in-Cached.place c.in-Cached.whole c.args.plane c.args.lines c.args.parts.line h
    c.first.result c.line_among-line.result c.first.ensures.value c.line_among-line.ensures.value in
    omega (arith, held.most, held.few)

pub window-requires-clause-held : goal.window-requires-clause-held
window-requires-clause-held c = λ k lt.
    let w = c.args.self.now in
    let o = reference_picture w.book w.picture w.number c.args.lines in
    let p = c.args.plane in
    let line = c.args.parts.line + k in
    let h = in_cache w.book w.picture w.row o c.in-Cached.place c.in-Cached.whole p c.args.lines line c.in-Cached.ensures.value (c.requires.held k lt).1 in
    let step = c.step_among-step.result in
    let there = c.line_among-line.result + k * step in
    let spot = c.line_kept-there.result + k * step in
    let is = ap (λ (n : ℕ). n + k * step) c.line_among-line.ensures.value ∙ sym (c.step_among-step.ensures.value c.args.parts.line k) in
    let on : spot + side p * c.first.result ≡ there + side p * c.in-Cached.place = omega (arith, c.line_kept-there.ensures.value) in
    subst (λ (rows : List Samples). spot / side p < length rows) (sym c.kept-rows.ensures.value)
    (kept_below w.book w.picture w.row c.cache.result.now c.cache.ensures.rows c.cache.ensures.fits o c.in-Cached.place c.in-Cached.whole p c.args.lines line h
    c.first.result there spot c.first.ensures.value is on)

pub window-requires-clause-within : goal.window-requires-clause-within
window-requires-clause-within c =
    let w = c.args.self.now in
    let o = reference_picture w.book w.picture w.number c.args.lines in
    let p = c.args.plane in
    let none : c.args.parts.line + 0 ≡ c.args.parts.line = omega arith in
    let holds = subst (λ (n : ℕ). HoldsLine w.book w.picture w.number w.row p c.args.lines n) none (c.requires.held 0 c.requires.some) in
    let h = in_cache w.book w.picture w.row o c.in-Cached.place c.in-Cached.whole p c.args.lines c.args.parts.line c.in-Cached.ensures.value holds.1 in
    let spot = c.line_kept-there.result in
    let below = kept_below w.book w.picture w.row c.cache.result.now c.cache.ensures.rows c.cache.ensures.fits o c.in-Cached.place c.in-Cached.whole p c.args.lines c.args.parts.line h
    c.first.result c.line_among-line.result spot c.first.ensures.value c.line_among-line.ensures.value c.line_kept-there.ensures.value in
    let size = c.cache.ensures.fits.size (spot / side p) no_samples below in
    subst (λ (rows : List Samples). c.args.parts.column + c.args.parts.len ≤ columns_of (get_or rows (spot / side p) no_samples).dims p) (sym c.kept-rows.ensures.value)
    (subst (λ (d : Dims). c.args.parts.column + c.args.parts.len ≤ columns_of d p) (sym size) c.requires.within)

pub returns-in-Before-clause-value : goal.returns-in-Before-clause-value
returns-in-Before-clause-value c =
    let w = c.args.self.now in
    let o = reference_picture w.book w.picture w.number c.args.lines in
    let h = in_before w.book w.picture w.row o c.args.plane c.args.lines (c.args.parts.line + 0) c.in-Before.ensures.value (c.requires.held 0 c.requires.some).1 in
    IfSome_then c.window_before.result c.window_before.ensures.value
    (λ x so k lt. so k lt
    ∙ before_value w.book w.picture w.number c.before-before.result.now c.args.plane c.args.lines (c.args.parts.line + k) c.args.parts.column c.args.parts.len h.none
    (c.before-before.ensures.value ∙ ap (λ (b : Book). b.before) c.book.ensures.value))

pub returns-in-Cached-clause-value : goal.returns-in-Cached-clause-value
returns-in-Cached-clause-value c = λ k lt.
    let w = c.args.self.now in
    let o = reference_picture w.book w.picture w.number c.args.lines in
    let p = c.args.plane in
    let line = c.args.parts.line + k in
    let h = in_cache w.book w.picture w.row o c.in-Cached.place c.in-Cached.whole p c.args.lines line c.in-Cached.ensures.value (c.requires.held k lt).1 in
    let step = c.step_among-step.result in
    let there = c.line_among-line.result + k * step in
    let spot = c.line_kept-there.result + k * step in
    let is = ap (λ (n : ℕ). n + k * step) c.line_among-line.ensures.value ∙ sym (c.step_among-step.ensures.value c.args.parts.line k) in
    let on : spot + side p * c.first.result ≡ there + side p * c.in-Cached.place = omega (arith, c.line_kept-there.ensures.value) in
    c.window.ensures.value k lt
    ∙ ap (λ (rows : List Samples). line_part (kept_at rows p spot) c.args.parts.column c.args.parts.len) c.kept-rows.ensures.value
    ∙ kept_value w.book w.picture w.row c.cache.result.now c.cache.ensures.rows c.cache.ensures.fits o c.in-Cached.place c.in-Cached.whole p c.args.lines line h
    w.number c.first.result there spot c.args.parts.column c.args.parts.len c.first.ensures.value is on refl
