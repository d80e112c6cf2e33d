use Rattle.std.proofs.Common.{arith, ap, ◌≡◌, ◌-◌, refl, drop}
use Rattle.m2v_bits.specs.Bits.{Unread}
use Rattle.m2v_block.proofs.DcLooks.{size_used, bits_looked}
use Rattle.m2v_block.proofs.read_dc.quick_sized.Goals as goal

pub overflow_sub-used : goal.overflow_sub-used
overflow_sub-used c =
    let used = size_used c.args.luma c.in-Ok.size c.args.input.now c.size.new.input c.place-from.ensures.sound c.place.ensures.sound c.in-Ok.ensures.text c.in-Ok.ensures.exact in
    omega (arith, used.0, c.place-from.ensures.value, c.place.ensures.value)

pub overflow_cast-used : goal.overflow_cast-used
overflow_cast-used c =
    let used = size_used c.args.luma c.in-Ok.size c.args.input.now c.size.new.input c.place-from.ensures.sound c.place.ensures.sound c.in-Ok.ensures.text c.in-Ok.ensures.exact in
    record { fits = omega (arith, used.1, c.place-from.ensures.value, c.place.ensures.value) }

pub overflow_sub-bits : goal.overflow_sub-bits
overflow_sub-bits c =
    let used = size_used c.args.luma c.in-Ok.size c.args.input.now c.size.new.input c.place-from.ensures.sound c.place.ensures.sound c.in-Ok.ensures.text c.in-Ok.ensures.exact in
    omega (arith, used.1, c.place-from.ensures.value, c.place.ensures.value)

pub overflow_sub-bits-2 : goal.overflow_sub-bits-2
overflow_sub-bits-2 c =
    let used = size_used c.args.luma c.in-Ok.size c.args.input.now c.size.new.input c.place-from.ensures.sound c.place.ensures.sound c.in-Ok.ensures.text c.in-Ok.ensures.exact in
    omega (arith, used.1, c.place-from.ensures.value, c.place.ensures.value, c.in-Ok.ensures.size)

pub skip-requires : goal.skip-requires
skip-requires c =
    let used = size_used c.args.luma c.in-Ok.size c.args.input.now c.size.new.input c.place-from.ensures.sound c.place.ensures.sound c.in-Ok.ensures.text c.in-Ok.ensures.exact in
    omega (arith, used.1, used.2, c.in_ok-look.ensures.left refl, c.in-Ok.ensures.size)

pub returns-clause-read : goal.returns-clause-read
returns-clause-read c =
    let used = size_used c.args.luma c.in-Ok.size c.args.input.now c.size.new.input c.place-from.ensures.sound c.place.ensures.sound c.in-Ok.ensures.text c.in-Ok.ensures.exact in
    let bs = c.args.input.now.rest in
    let mid = c.size.new.input.rest in
    let rest : c.skip.new.self.rest ≡ drop c.in-Ok.size mid = ap (λ (u : Unread). u.rest) c.skip.ensures in
    let bits = bits_looked c.args.luma c.in_ok-look.look c.in-Ok.size (c.size.new.input.place - c.args.input.now.place) bs mid c.in-Ok.ensures.exact used.1 used.2 c.in_ok-look.ensures.value c.in-Ok.ensures.size (c.in_ok-look.ensures.left refl) in
    (mid, c.in-Ok.ensures.exact, rw (c.place.ensures.value, c.place-from.ensures.value, rest) bits)
