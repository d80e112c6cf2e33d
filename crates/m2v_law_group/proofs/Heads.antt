-- What stands in headers at known places, and group headers whose last two bits are others.
use Rattle.std.proofs.Common.{◌≡◌, ℕ, ◌/◌, ◌%◌, ◌≤◌, Bool, true, false, List, [], ◌∷◌, ◌++◌, length, take, drop, Some, refl, sym, ap, subst, ◌∙◌, append_assoc, arith}
use Rattle.std.specs.Prelude.{◌==◌, nat_eq, not, ◌&&◌, ◌||◌, Option}
use Rattle.std.proofs.lemmas.List.{length-append, take_at, drop_at}
use Rattle.m2v_bits.specs.Bits.{bits_of, bits, all_zero}
use Rattle.m2v_bits.specs.Syntax.{seq, here, rule, done, renamed}
use Rattle.m2v_bits.specs.Leaves.{bits_at, end_at}
use Rattle.m2v_bits.specs.Elements as elements
use Rattle.m2v_bits.proofs.Bits.{length-bits_of, bits_of-mod}
use Rattle.m2v_model.specs.m2v_macroblock.m2v_head.declared.group.GroupInfo.{GroupInfo}
use Rattle.m2v_model.specs.m2v_macroblock.m2v_head.declared.picture.PictureInfo.{PictureInfo}
use Rattle.m2v_model.specs.m2v_macroblock.m2v_head.declared.picture.PictureExtension.{PictureExtension}
use Rattle.m2v_model.specs.m2v_macroblock.m2v_head.Elements.{Header, number_at, flag_at, marker_at}
use Rattle.m2v_model.specs.m2v_macroblock.m2v_head.Headers.{kind_at, picture_at, picture_extension_at, group_at}
use Rattle.m2v_model.specs.Units.{body}
use Rattle.m2v_model.specs.Looking.{number_from, look, passes}
use Rattle.m2v_model.specs.Headers.{whole_header, picture_in, is_structure, picture_extension_in, group_in, f_code_at}
use Rattle.m2v_model.specs.Headers as looks
use Rattle.m2v_dec_unit.proofs.Further.{skip_more, number_is, id_skips, some_is, f_codes_ahead}
use Rattle.m2v_law_group.specs.Groups.{with_broken_link, broken_header}

-- ---- pictures

kind_is : (v : ℕ) (t mid : List Bool) → kind_at.Stands v t mid → number_from 0 3 t ≡ Some v
unfolding kind_at seq here rule done
kind_is v t mid st =
    ap (number_from 0 3) (sym st.2.1) ∙ (number_is 3 st.3.0 st.1 st.3.1 st.3.2).number ∙ ap Some (sym st.3.3.3.3.0)

-- picture_coding_type stands 10 bits on
pub kind_seen : (info : PictureInfo) (t end : List Bool) → (whole_header picture_in).Stands info t end → number_from 10 3 t ≡ Some info.kind
unfolding whole_header picture_in picture_at renamed seq done
kind_seen info t end h =
    let p = h.2 in
    let first = number_is 10 p.0 t p.1 p.2 in
    let told : p.3.0 ≡ info.kind = sym (ap (λ (i : PictureInfo). i.kind) (h.3.3.0 ∙ p.3.3.3.3.3.3.0)) in
    first.skips.on 0 3 ∙ kind_is p.3.0 p.1 p.3.1 p.3.2 ∙ ap Some told

-- picture_structure stands 22 bits on
extension_seen : (e : PictureExtension) (t mid : List Bool) → picture_extension_at.Stands e t mid → number_from 22 2 t ≡ Some e.structure
unfolding picture_extension_at seq done
extension_seen e t mid p =
    let a = id_skips 8 p.0 t p.1 p.2 in
    let b = (f_codes_ahead p.3.0 p.1 p.3.1 p.3.2).skips in
    let c = number_is 2 p.3.3.0 p.3.1 p.3.3.1 p.3.3.2 in
    let d = some_is 7 2 p.3.3.3.0 p.3.3.1 p.3.3.3.1 p.3.3.3.2 in
    let told : p.3.3.3.0 ≡ e.structure = sym (ap (λ (x : PictureExtension). x.structure) p.3.3.3.3.3.3.3.3.3.3.3.3.3.3.0) in
    (skip_more (skip_more a b) c.skips).on 0 2 ∙ d.number ∙ ap Some told

code_stays : (used : Bool) (at from : ℕ) (x : Unit {0}) (t rest : List Bool) → (f_code_at used at from).Stands x t rest → rest ≡ t
unfolding f_code_at seq look rule
code_stays used at from x t rest h = h.3.1 ∙ h.2.1

codes_stay : (kind at : ℕ) (x : Unit {0}) (t rest : List Bool) → (looks.f_codes_at kind at).Stands x t rest → rest ≡ t
unfolding looks.f_codes_at seq look
codes_stay kind at x t rest h =
    let l1 = h.3 in
    let l2 = l1.3 in
    let l3 = l2.3 in
    code_stays _ _ _ x l3.1 rest l3.3 ∙ code_stays _ _ _ l3.0 l2.1 l3.1 l3.2 ∙ code_stays _ _ _ l2.0 l1.1 l2.1 l2.2 ∙ code_stays _ _ _ l1.0 h.1 l1.1 l1.2 ∙ h.2.1

pub structure_seen : (progressive : Bool) (info : PictureInfo) (e : PictureExtension) (t end : List Bool) → (whole_header (picture_extension_in progressive info)).Stands e t end → number_from 22 2 t ≡ Some e.structure
unfolding whole_header picture_extension_in renamed seq here look rule done
structure_seen progressive info e t end h =
    let l1 = h.2.3 in
    let l2 = l1.3 in
    let l3 = l2.3 in
    let same : l3.1 ≡ t = l3.2.1 ∙ l2.2.1 ∙ codes_stay info.kind h.2.0 l1.0 h.2.1 l1.1 l1.2 ∙ h.2.2.1 in
    subst (λ (x : List Bool). number_from 22 2 x ≡ Some h.0.structure) same (extension_seen h.0 l3.1 h.1 l3.3) ∙ ap (λ (x : PictureExtension). Some x.structure) (sym h.3.3.0)

-- picture_structure isn't 0
pub structure_some : (progressive : Bool) (info : PictureInfo) (e : PictureExtension) (t end : List Bool) → (whole_header (picture_extension_in progressive info)).Stands e t end → nat_eq e.structure 0 ≡ false
unfolding whole_header picture_extension_in renamed seq here look rule done
structure_some progressive info e t end h =
    let l1 = h.2.3 in
    let l2 = l1.3 in
    let l3 = l2.3 in
    let at : l1.1 ≡ t = codes_stay info.kind h.2.0 l1.0 h.2.1 l1.1 l1.2 ∙ h.2.2.1 in
    let seen : l2.0 ≡ Some e.structure = l2.2.0 ∙ ap (number_from 22 2) at ∙ structure_seen progressive info e t end h in
    let tested : passes (is_structure progressive) (Some e.structure) ≡ true = subst (λ (o : Option ℕ). passes (is_structure progressive) o ≡ true) seen l3.2.0 in
    first_off (nat_eq e.structure 0) (not progressive || nat_eq e.structure 3) tested
  where
    first_off : (a b : Bool) → (not a && b) ≡ true → a ≡ false
    first_off true b e = absurd cc
    first_off false b e = refl

-- ---- group headers

gather : (a b c d e f z : List Bool) → a ++ (b ++ (c ++ (d ++ (e ++ (f ++ z))))) ≡ (a ++ (b ++ (c ++ (d ++ (e ++ f))))) ++ z
gather a b c d e f z =
    sym (append_assoc a (b ++ (c ++ (d ++ (e ++ f)))) z
    ∙ ap (λ (l : List Bool). a ++ l) (append_assoc b (c ++ (d ++ (e ++ f))) z
    ∙ ap (λ (l : List Bool). b ++ l) (append_assoc c (d ++ (e ++ f)) z
    ∙ ap (λ (l : List Bool). c ++ l) (append_assoc d (e ++ f) z
    ∙ ap (λ (l : List Bool). d ++ l) (append_assoc e f z)))))

-- an element and the bits that it is written in, whatever follows
record Moves {V : Type 0} (s : Header V) (v : V) (n : ℕ) (t mid : List Bool) : Type 0 where
  text : List Bool
  is : t ≡ text ++ mid
  long : length text ≡ n
  again : (rest : List Bool) → s.Stands v (text ++ rest) rest

number_moves : (n v : ℕ) (t mid : List Bool) → (number_at n).Stands v t mid → Moves (number_at n) v n t mid
unfolding bits_at
number_moves n v t mid h = record { text = bits_of n v; is = h.1; long = length-bits_of n v; again = λ rest. (h.0, refl) }

flag_moves : (b : Bool) (t mid : List Bool) → flag_at.Stands b t mid → Moves flag_at b 1 t mid
unfolding elements.flag_at seq done bits_at
flag_moves b t mid h = record { text = bits_of 1 h.0; is = h.2.1 ∙ ap (λ (l : List Bool). bits_of 1 h.0 ++ l) (sym h.3.1); long = length-bits_of 1 h.0; again = λ rest. (h.0, rest, (h.2.0, refl), (h.3.0, refl)) }

marker_moves : (x : Unit {0}) (t mid : List Bool) → marker_at.Stands x t mid → Moves marker_at x 1 t mid
unfolding marker_at seq here rule bits_at
marker_moves x t mid h =
    let l = h.3 in
    record {
      text = bits_of 1 l.0;
      is = sym h.2.1 ∙ l.2.1 ∙ ap (λ (y : List Bool). bits_of 1 l.0 ++ y) (sym l.3.1);
      long = length-bits_of 1 l.0;
      again = λ rest. (length (bits_of 1 l.0 ++ rest), bits_of 1 l.0 ++ rest, (refl, refl), (l.0, rest, (l.2.0, refl), (l.3.0, refl)));
    }

-- a flag that is 0, and one that is 1
zero_flag : (rest : List Bool) → flag_at.Stands false (false ∷ rest) rest
unfolding elements.flag_at seq done bits_at bits_of
zero_flag rest = (0, rest, (omega arith, refl), (refl, refl))

one_flag : (rest : List Bool) → flag_at.Stands true (true ∷ rest) rest
unfolding elements.flag_at seq done bits_at bits_of
one_flag rest = (1, rest, (omega arith, refl), (refl, refl))

-- a group header as bits: 25 of them, the two that tell of its neighbours, and zeros
record GroupBits (g : GroupInfo) (t : List Bool) : Type 0 where
  front : List Bool
  closed : Bool
  broken : Bool
  rest : List Bool
  is : t ≡ front ++ closed ∷ broken ∷ rest
  long : length front ≡ 25
  again : (whole_header group_in).Stands (record g { closed_gop = false; broken_link = true }) (front ++ false ∷ true ∷ rest) []

one_bit : (l : List Bool) → length l ≡ 1 → (b : Bool) × (l ≡ b ∷ [])
one_bit [] e = absurd cc
one_bit (b ∷ []) e = (b, refl)
one_bit (b ∷ c ∷ l) e = absurd (omega (arith, e))

group_bits : (g : GroupInfo) (t end : List Bool) → (whole_header group_in).Stands g t end → GroupBits g t
unfolding whole_header group_in group_at renamed seq done end_at
group_bits g t end h =
    let p0 = h.2 in
    let p1 = p0.3 in
    let p2 = p1.3 in
    let p3 = p2.3 in
    let p4 = p3.3 in
    let p5 = p4.3 in
    let p6 = p5.3 in
    let p7 = p6.3 in
    let a = flag_moves p0.0 t p0.1 p0.2 in
    let b = number_moves 5 p1.0 p0.1 p1.1 p1.2 in
    let c = number_moves 6 p2.0 p1.1 p2.1 p2.2 in
    let d = marker_moves p3.0 p2.1 p3.1 p3.2 in
    let e = number_moves 6 p4.0 p3.1 p4.1 p4.2 in
    let f = number_moves 6 p5.0 p4.1 p5.1 p5.2 in
    let k = flag_moves p6.0 p5.1 p6.1 p6.2 in
    let l = flag_moves p7.0 p6.1 p7.1 p7.2 in
    let x = one_bit k.text k.long in
    let y = one_bit l.text l.long in
    let zeros = h.3.2.0 in
    let tail : h.1 ≡ p7.1 = p7.3.1 in
    let info : g ≡ h.0 = h.3.3.0 in
    let made = p7.3.0 in
    let rest = p7.1 in
    let after = λ (z : List Bool). a.text ++ (b.text ++ (c.text ++ (d.text ++ (e.text ++ (f.text ++ z))))) in
    let front = a.text ++ (b.text ++ (c.text ++ (d.text ++ (e.text ++ f.text)))) in
    let gathered : (z : List Bool) → after z ≡ front ++ z = λ z. gather a.text b.text c.text d.text e.text f.text z in
    let last : p5.1 ≡ x.0 ∷ y.0 ∷ rest = k.is ∙ ap (λ (m : List Bool). m ++ p6.1) x.1 ∙ ap (λ (m : List Bool). x.0 ∷ m) (l.is ∙ ap (λ (m : List Bool). m ++ rest) y.1) in
    let whole : t ≡ after p5.1 =
    a.is ∙ ap (λ (m : List Bool). a.text ++ m) (b.is ∙ ap (λ (m : List Bool). b.text ++ m) (c.is ∙ ap (λ (m : List Bool). c.text ++ m) (d.is ∙ ap (λ (m : List Bool). d.text ++ m) (e.is ∙ ap (λ (m : List Bool). e.text ++ m) f.is)))) in
    let n5 = f.text ++ false ∷ true ∷ rest in
    let n4 = e.text ++ n5 in
    let n3 = d.text ++ n4 in
    let n2 = c.text ++ n3 in
    let n1 = b.text ++ n2 in
    let again : (whole_header group_in).Stands (record g { closed_gop = false; broken_link = true }) (after (false ∷ true ∷ rest)) [] = (
      record g { closed_gop = false; broken_link = true },
      rest,
      (
        p0.0,
        n1,
        a.again n1,
        (
          p1.0,
          n2,
          b.again n2,
          (p2.0, n3, c.again n3, (p3.0, n4, d.again n4, (p4.0, n5, e.again n5, (p5.0, false ∷ true ∷ rest, f.again (false ∷ true ∷ rest), (false, true ∷ rest, zero_flag (true ∷ rest), (true, rest, one_flag rest, (ap (λ (i : GroupInfo). record i { closed_gop = false; broken_link = true }) (info ∙ made), refl))))))),
        ),
      ),
      (tt, [], (subst (λ (m : List Bool). all_zero m ≡ true) tail zeros, refl), (refl, refl)),
    ) in
    record {
      front = front;
      closed = x.0;
      broken = y.0;
      rest = rest;
      is = whole ∙ ap after last ∙ gathered (x.0 ∷ y.0 ∷ rest);
      long = omega (arith, a.long, b.long, c.long, d.long, e.long, f.long, length-append a.text (b.text ++ (c.text ++ (d.text ++ (e.text ++ f.text)))), length-append b.text (c.text ++ (d.text ++ (e.text ++ f.text))), length-append c.text (d.text ++ (e.text ++ f.text)), length-append d.text (e.text ++ f.text), length-append e.text f.text);
      again = subst (λ (m : List Bool). (whole_header group_in).Stands (record g { closed_gop = false; broken_link = true }) m []) (gathered (false ∷ true ∷ rest)) again;
    }

-- ---- the changed byte

byte_bits : (b : ℕ) → bits_of 8 b ≡ (b / 128 % 2 == 1) ∷ (b / 64 % 2 == 1) ∷ (b / 32 % 2 == 1) ∷ bits_of 5 b
unfolding bits_of
byte_bits b = refl

broken_bits : (b : ℕ) → bits_of 8 (with_broken_link b) ≡ (b / 128 % 2 == 1) ∷ false ∷ true ∷ bits_of 5 b
broken_bits b =
    let n = with_broken_link b in
    let high : n / 128 ≡ b / 128 = omega arith in
    let closed : n / 64 % 2 ≡ 0 = omega arith in
    let broken : n / 32 % 2 ≡ 1 = omega arith in
    let low : n % 32 ≡ b % 32 = omega arith in
    let five : bits_of 5 n ≡ bits_of 5 b = sym (bits_of-mod 5 n) ∙ ap (bits_of 5) low ∙ bits_of-mod 5 b in
    byte_bits n
    ∙ ap (λ (x : ℕ). (x % 2 == 1) ∷ (n / 64 % 2 == 1) ∷ (n / 32 % 2 == 1) ∷ bits_of 5 n) high
    ∙ ap (λ (x : ℕ). (b / 128 % 2 == 1) ∷ (x == 1) ∷ (n / 32 % 2 == 1) ∷ bits_of 5 n) closed
    ∙ ap (λ (x : ℕ). (b / 128 % 2 == 1) ∷ false ∷ (x == 1) ∷ bits_of 5 n) broken
    ∙ ap (λ (l : List Bool). (b / 128 % 2 == 1) ∷ false ∷ true ∷ l) five

-- behind a front of the same length
same_front : (a b : List Bool) (c d e f : Bool) (s t : List Bool) → length a ≡ 25 → length b ≡ 25 → a ++ c ∷ d ∷ s ≡ b ++ e ∷ f ∷ t → (a ≡ b) × (s ≡ t)
same_front a b c d e f s t la lb h =
    let front : a ≡ b = sym (take_at a (c ∷ d ∷ s) 25 la) ∙ ap (take 25) h ∙ take_at b (e ∷ f ∷ t) 25 lb in
    let tail : c ∷ d ∷ s ≡ e ∷ f ∷ t = sym (drop_at a (c ∷ d ∷ s) 25 la) ∙ ap (drop 25) h ∙ drop_at b (e ∷ f ∷ t) 25 lb in
    (front, ap (drop 2) tail)

abbrev three_bytes : ℕ → ℕ → ℕ → List Bool
three_bytes a b c = bits_of 8 a ++ (bits_of 8 b ++ bits_of 8 c)

three_long : (a b c : ℕ) → length (three_bytes a b c) ≡ 24
three_long a b c = omega (arith, length-append (bits_of 8 a) (bits_of 8 b ++ bits_of 8 c), length-append (bits_of 8 b) (bits_of 8 c), length-bits_of 8 a, length-bits_of 8 b, length-bits_of 8 c)

four_bytes : (a b c d : ℕ) (bs : List ℕ) → bits (a ∷ b ∷ c ∷ d ∷ bs) ≡ three_bytes a b c ++ (bits_of 8 d ++ bits bs)
four_bytes a b c d bs = sym (append_assoc (bits_of 8 a) (bits_of 8 b ++ bits_of 8 c) (bits_of 8 d ++ bits bs) ∙ ap (λ (l : List Bool). bits_of 8 a ++ l) (append_assoc (bits_of 8 b) (bits_of 8 c) (bits_of 8 d ++ bits bs)))

-- the bits of a changed header
changed_bits : (a b c d : ℕ) (bs : List ℕ) (front : List Bool) (x y : Bool) (rest : List Bool) → bits (a ∷ b ∷ c ∷ d ∷ bs) ≡ front ++ x ∷ y ∷ rest → length front ≡ 25 → bits (a ∷ b ∷ c ∷ with_broken_link d ∷ bs) ≡ front ++ false ∷ true ∷ rest
changed_bits a b c d bs front x y rest e long =
    let v = three_bytes a b c in
    let top = (d / 128 % 2 == 1) in
    let z = bits_of 5 d ++ bits bs in
    let own = v ++ top ∷ [] in
    let ownlong : length own ≡ 25 = omega (arith, length-append v (top ∷ []), three_long a b c) in
    let old : own ++ (d / 64 % 2 == 1) ∷ (d / 32 % 2 == 1) ∷ z ≡ front ++ x ∷ y ∷ rest = append_assoc v (top ∷ []) ((d / 64 % 2 == 1) ∷ (d / 32 % 2 == 1) ∷ z) ∙ ap (λ (l : List Bool). v ++ (l ++ bits bs)) (sym (byte_bits d)) ∙ sym (four_bytes a b c d bs) ∙ e in
    let same = same_front own front (d / 64 % 2 == 1) (d / 32 % 2 == 1) x y z rest ownlong long old in
    four_bytes a b c (with_broken_link d) bs
    ∙ ap (λ (l : List Bool). v ++ (l ++ bits bs)) (broken_bits d)
    ∙ sym (append_assoc v (top ∷ []) (false ∷ true ∷ z))
    ∙ ap (λ (l : List Bool). l ++ false ∷ true ∷ z) same.0
    ∙ ap (λ (l : List Bool). front ++ false ∷ true ∷ l) same.1

-- a header with so many bytes, as it is changed
header_changed : (u : List ℕ) (front : List Bool) (x y : Bool) (rest : List Bool) → 8 ≤ length u → body u ≡ front ++ x ∷ y ∷ rest → length front ≡ 25 → body (broken_header u) ≡ front ++ false ∷ true ∷ rest
header_changed (u0 ∷ u1 ∷ u2 ∷ u3 ∷ a ∷ b ∷ c ∷ d ∷ bs) front x y rest le e long = changed_bits a b c d bs front x y rest e long
header_changed _ front x y rest le e long = absurd (omega arith)

-- a group header that is changed says that its group isn't closed, and all else that it said
pub broken_stands : (u : List ℕ) (g : GroupInfo) (end : List Bool) → 8 ≤ length u → (whole_header group_in).Stands g (body u) end → (whole_header group_in).Stands (record g { closed_gop = false; broken_link = true }) (body (broken_header u)) []
broken_stands u g end le h =
    let b = group_bits g (body u) end h in
    subst (λ (t : List Bool). (whole_header group_in).Stands (record g { closed_gop = false; broken_link = true }) t []) (sym (header_changed u b.front b.closed b.broken b.rest le b.is b.long)) b.again
