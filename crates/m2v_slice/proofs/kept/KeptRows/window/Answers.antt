use Rattle.std.proofs.Common.{◌≡◌, ◌≤◌, ◌<◌, ℕ, ◌+◌, ◌-◌, ◌*◌, ◌/◌, length, arith, ap, subst, ◌∙◌, take, drop, List}
use Rattle.std.proofs.lemmas.List.{length-drop, take_rest}
use Rattle.m2v_plane.specs.Sizes.{side}
use Rattle.m2v_slice.proofs.KeptLines.{kept_fits, kept_part}
use Rattle.m2v_slice.proofs.kept.KeptRows.window.Goals as goal

pub place_of-from-requires : goal.place_of-from-requires
place_of-from-requires c =
    let h = c.all-all.ensures.lines in
    let p = c.args.plane in
    let none : c.args.line + 0 * c.args.step ≡ c.args.line = omega arith in
    let first : c.args.line / side p < length c.args.self.now = subst (λ (n : ℕ). n / side p < length c.args.self.now) none (c.requires.held 0 (omega arith)) in
    let lt : (c.args.line + 0 * c.args.step) / side p < 12 = omega (arith, c.requires.held 0 (omega arith), h.count) in
    let within : c.args.column + c.args.len ≤ c.all-all.result.stride = omega (arith, c.requires.within, h.wide (c.args.line / side p) (omega (arith, first, h.count))) in
    record { fits = omega (arith, kept_fits c.args.self.now p c.all-all.result.samples.now c.all-all.result.stride c.args.line 0 c.args.step c.args.column c.args.len h lt within) }

pub returns-clause-fits : goal.returns-clause-fits
returns-clause-fits c =
    let h = c.all-all.ensures.lines in
    let p = c.args.plane in
    let xs = c.all-all.result.samples.now in
    let w = c.all-all.result.stride in
    let last = c.args.count - 1 in
    let from = c.place_of-from.result in
    let none : c.args.line + 0 * c.args.step ≡ c.args.line = omega arith in
    let first : c.args.line / side p < length c.args.self.now = subst (λ (n : ℕ). n / side p < length c.args.self.now) none (c.requires.held 0 (omega arith)) in
    let lt : (c.args.line + last * c.args.step) / side p < 12 = omega (arith, c.requires.held last (omega arith), h.count) in
    let within : c.args.column + c.args.len ≤ w = omega (arith, c.requires.within, h.wide (c.args.line / side p) (omega (arith, first, h.count))) in
    let fits = kept_fits c.args.self.now p xs w c.args.line last c.args.step c.args.column c.args.len h lt within in
    omega (arith, fits, c.place_of-from.ensures.value, length-drop from xs, ap length (take_rest xs from))

pub returns-clause-value : goal.returns-clause-value
returns-clause-value c = λ k lt.
    let h = c.all-all.ensures.lines in
    let p = c.args.plane in
    let xs = c.all-all.result.samples.now in
    let w = c.all-all.result.stride in
    let from = c.place_of-from.result in
    let none : c.args.line + 0 * c.args.step ≡ c.args.line = omega arith in
    let first : c.args.line / side p < length c.args.self.now = subst (λ (n : ℕ). n / side p < length c.args.self.now) none (c.requires.held 0 (omega arith)) in
    let below : (c.args.line + k * c.args.step) / side p < 12 = omega (arith, c.requires.held k lt, h.count) in
    let within : c.args.column + c.args.len ≤ w = omega (arith, c.requires.within, h.wide (c.args.line / side p) (omega (arith, first, h.count))) in
    ap (λ (ys : List ℕ). take c.args.len (drop (k * (c.args.step * w)) ys)) (take_rest xs from)
    ∙ kept_part c.args.self.now p xs w c.args.line k c.args.step c.args.column c.args.len from h below within c.place_of-from.ensures.value
