-- A text is one thing: of what it is said to be, one answer follows, and none but that.
use Rattle.std.proofs.Common.{◌≡◌, inl, inr, ℕ, suc, ◌+◌, ◌*◌, ◌<◌, ◌≤◌, List, [], ◌∷◌, ◌++◌, length, Option, Some, None, IfSome, Result, Ok, Err, IfOk, IfErr, refl, sym, ap, subst, ◌∙◌, arith, length-append}
use Rattle.std.proofs.lemmas.Bool.{cases_lt}
use Rattle.std.proofs.Math.Nat.{suc-mul, mul-le-mul_right}
use Rattle.m2v_port.specs.Ends.{Change, Tells}
use Rattle.m2v_port.specs.Port.{Grows}
use Rattle.m2v_plane.specs.Raw.{raw}
use Rattle.m2v_y4m.specs.declared.answer.Y4mFault.{Y4mFault}
use Rattle.m2v_y4m.specs.declared.answer.PackSummary.{PackSummary}
use Rattle.m2v_y4m.specs.declared.answer.UnpackError.{UnpackError}
use Rattle.m2v_y4m.specs.declared.answer.UnpackError.TheVariants as errors
use Rattle.m2v_y4m.specs.declared.header.Y4mHeader.{Y4mHeader}
use Rattle.m2v_y4m.specs.Header.{opening}
use Rattle.m2v_y4m.specs.declared.opening.Opening.{Opening}
use Rattle.m2v_y4m.specs.Frames.{Coming, Begins, AreWhole, size_of, Y4m, EndsShort}
use Rattle.m2v_y4m.specs.Answers.{most_frames, Gives, Unpacked, UnpackEndedShort, UnpackWentOn, UnpackBroken, UnpackStops, Hindered, IsAnswered}
use Rattle.m2v_y4m.proofs.Comings.{one_beginning}
use Rattle.m2v_y4m.proofs.UnpackTexts.{raw_size}

-- ---- numbers of frames

-- whole frames and a part of the next are so in one way
apart : (n m size p q : ℕ) → n * size + p ≡ m * size + q → p < size → q < size → (n ≡ m) × (p ≡ q)
apart n m size p q is less fewer = elim (cases_lt n m) [
  | inl up ↦
      let next : suc n ≤ m = omega (arith, up) in
      absurd (omega (arith, is, less, mul-le-mul_right size next, suc-mul n size))
  | inr down ↦ elim (cases_lt m n) [
    | inl up ↦
        let next : suc m ≤ n = omega (arith, up) in
        absurd (omega (arith, is, fewer, mul-le-mul_right size next, suc-mul m size))
    | inr over ↦
        let one : n ≡ m = omega (arith, down, over) in
        (one, omega (arith, is, ap (λ (k : ℕ). k * size) one))
  ]
]

-- the last frame that may come and a byte behind it are more than so many frames, and than fewer and a part of the next
too_few : (n size rest : ℕ) → n ≤ most_frames → n * size ≡ most_frames * size + 1 + rest → ⊥
too_few n size rest few is = omega (arith, is, mul-le-mul_right size few)

too_short : (n size p rest : ℕ) → n < most_frames → p < size → n * size + p ≡ most_frames * size + 1 + rest → ⊥
too_short n size p rest few less is =
    let next : suc n ≤ most_frames = omega (arith, few) in
    omega (arith, is, less, mul-le-mul_right size next, suc-mul n size)

-- ---- one reading

told_of : (left : Change) (Holds : List ℕ → Type 0) (text : List ℕ) → left.old ≡ Some text → Tells left Holds → Holds text
told_of left Holds text is h = subst (λ (o : Option (List ℕ)). IfSome o Holds) is h

one_err : (r : Result Opening Y4mFault) (x y : Y4mFault) → r ≡ Err x → r ≡ Err y → x ≡ y
one_err r x y f g = let e = sym f ∙ g in cc

not_both : (r : Result Opening Y4mFault) (x : Opening) (y : Y4mFault) → r ≡ Ok x → r ≡ Err y → ⊥
not_both r x y f g = let e = sym f ∙ g in absurd cc

some_none : (f : Y4mFault) → (let none : Option Y4mFault = None in none ≡ Some f) → ⊥
some_none f e = absurd cc

one_fault : (f g : Y4mFault) → Some f ≡ Some g → f ≡ g
one_fault f g e = cc

module _ (text : List ℕ) where
  unopened : (h : Y4mHeader) (c : Coming) (f : Y4mFault) → Begins text h c → opening text ≡ Err f → ⊥
  unopened h c f a is = not_both (opening text) (record { header = h; length = a.length }) f a.opens is

  -- whole texts have the same frames, as bytes and in number
  same_frames : (h k : Y4mHeader) (fs gs : List (List ℕ)) → 1 ≤ size_of h → Y4m text h fs → Y4m text k gs → (raw fs ≡ raw gs) × (length fs ≡ length gs)
  same_frames h k fs gs some a b =
      let e = one_beginning text h k _ _ a.begins b.begins in
      let bytes : raw fs ≡ raw gs = ap (λ (c : Coming). c.raw) e.1 in
      let one = raw_size (size_of h) h fs refl a.whole in
      let other = raw_size (size_of h) k gs (ap size_of e.0) b.whole in
      (bytes, (apart (length fs) (length gs) (size_of h) 0 0 (omega (arith, one, other, ap length bytes)) (omega (arith, some)) (omega (arith, some))).0)

  -- a text that ends inside a frame is no whole one, and ends so in one way
  not_short : (h k : Y4mHeader) (fs gs : List (List ℕ)) (extra : ℕ) → Y4m text h fs → EndsShort text k gs extra → ⊥
  not_short h k fs gs extra a b =
      let e = one_beginning text k h _ _ b.begins a.begins in
      let bytes : raw gs ++ b.part ≡ raw fs = ap (λ (c : Coming). c.raw) e.1 in
      let one = raw_size (size_of k) h fs (ap size_of e.0) a.whole in
      let other = raw_size (size_of k) k gs refl b.whole in
      let same = apart (length fs) (length gs) (size_of k) 0 extra
      (omega (arith, one, other, ap length bytes, length-append (raw gs) b.part, b.count)) (omega (arith, b.some, b.less)) b.less in
      omega (arith, same.1, b.some)

  same_short : (h k : Y4mHeader) (fs gs : List (List ℕ)) (extra more : ℕ) → EndsShort text h fs extra → EndsShort text k gs more → extra ≡ more
  same_short h k fs gs extra more a b =
      let e = one_beginning text h k _ _ a.begins b.begins in
      let bytes : raw fs ++ a.part ≡ raw gs ++ b.part = ap (λ (c : Coming). c.raw) e.1 in
      let size : size_of h ≡ size_of k = ap size_of e.0 in
      let one = raw_size (size_of h) h fs refl a.whole in
      let other = raw_size (size_of h) k gs size b.whole in
      (apart (length fs) (length gs) (size_of h) extra more
      (omega (arith, one, other, ap length bytes, length-append (raw fs) a.part, length-append (raw gs) b.part, a.count, b.count)) a.less (omega (arith, b.less, size))).1

  -- a text with a byte behind the last frame that may come is none of these
  goes_on : (h k : Y4mHeader) (gs : List (List ℕ)) (next : ℕ) (c : Coming) (m : Gives text k (raw gs ++ next ∷ [])) → AreWhole k gs → length gs ≡ most_frames
      → Begins text h c → length c.raw ≡ most_frames * size_of h + 1 + length m.rest
  goes_on h k gs next c m whole all b =
      let e = one_beginning text h k _ _ b m.begins in
      let bytes : c.raw ≡ (raw gs ++ next ∷ []) ++ m.rest = ap (λ (d : Coming). d.raw) e.1 ∙ m.is in
      let frames = raw_size (size_of h) k gs (ap size_of e.0) whole ∙ ap (λ (n : ℕ). n * size_of h) all in
      omega (arith, ap length bytes, length-append (raw gs ++ next ∷ []) m.rest, length-append (raw gs) (next ∷ []), frames)

  not_many : (h k : Y4mHeader) (fs gs : List (List ℕ)) (next : ℕ) (fault : Option Y4mFault) → AreWhole h fs → length fs ≤ most_frames
      → Begins text h (record { raw = raw fs; fault = fault }) → Gives text k (raw gs ++ next ∷ []) → AreWhole k gs → length gs ≡ most_frames → ⊥
  not_many h k fs gs next fault are few b m whole all =
      too_few (length fs) (size_of h) (length m.rest) few (sym (raw_size (size_of h) h fs refl are) ∙ goes_on h k gs next _ m whole all b)

  short_not_many : (h k : Y4mHeader) (fs gs : List (List ℕ)) (extra next : ℕ) → EndsShort text h fs extra → length fs < most_frames
      → Gives text k (raw gs ++ next ∷ []) → AreWhole k gs → length gs ≡ most_frames → ⊥
  short_not_many h k fs gs extra next a few m whole all =
      too_short (length fs) (size_of h) extra (length m.rest) few a.less
      (omega (arith, goes_on h k gs next _ m whole all a.begins, length-append (raw fs) a.part, raw_size (size_of h) h fs refl a.whole, a.count))

  -- a text that is broken behind frames is none of the others, and is broken so in one way
  no_fault : (h k : Y4mHeader) (xs ys : List ℕ) (f : Y4mFault) → Begins text h (record { raw = xs; fault = None }) → Begins text k (record { raw = ys; fault = Some f }) → ⊥
  no_fault h k xs ys f a b = some_none f (ap (λ (c : Coming). c.fault) (one_beginning text h k _ _ a b).1)

  same_fault : (h k : Y4mHeader) (xs ys : List ℕ) (f g : Y4mFault) → Begins text h (record { raw = xs; fault = Some f }) → Begins text k (record { raw = ys; fault = Some g }) → f ≡ g
  same_fault h k xs ys f g a b = one_fault f g (ap (λ (c : Coming). c.fault) (one_beginning text h k _ _ a b).1)

-- ---- answers

module _ (left held : Change) (text : List ℕ) (told : left.old ≡ Some text) where
  ok_answered : (s : PackSummary) → Unpacked left held s → IsAnswered left held (Ok s) text
  ok_answered s u =
      let y = told_of left (λ t. Y4m t u.header u.frames) text told u.text in
      record {
        frames = λ h fs z few.
            let one = same_frames text u.header h u.frames fs u.size y z in (
              subst (λ (bytes : List ℕ). Grows held.old bytes held.new) one.0 u.grown,
              u.numbers ∙ (λ i. record { frames = one.1 i; bytes = length (one.0 i) }),
            );
        short = λ h fs extra z few. not_short text u.header h u.frames fs extra y z;
        many = λ h fs next z are all. not_many text u.header h u.frames fs next None y.whole u.most y.begins z are all;
        header = λ fault is. unopened text u.header _ fault y.begins is;
        fault = λ h fs fault are z few. no_fault text u.header h (raw u.frames) (raw fs) fault y.begins z;
      }

  short_answered : (extra : ℕ) → UnpackEndedShort left held extra → IsAnswered left held (Err (errors.ShortFrame extra)) text
  unfolding Hindered
  short_answered extra v =
      let y = told_of left (λ t. EndsShort t v.header v.frames extra) text told v.text in
      record {
        frames = λ h fs z few. not_short text h v.header fs v.frames extra z y;
        short = λ h fs more z few. inl (ap errors.ShortFrame (same_short text v.header h v.frames fs extra more y z));
        many = λ h fs next z are all. absurd (short_not_many text v.header h v.frames fs extra next y v.fewer z are all);
        header = λ fault is. absurd (unopened text v.header _ fault y.begins is);
        fault = λ h fs fault are z few. absurd (no_fault text v.header h (raw v.frames ++ y.part) (raw fs) fault y.begins z);
      }

  many_answered : UnpackWentOn left held → IsAnswered left held (Err errors.TooManyFrames) text
  unfolding Hindered
  many_answered v =
      let y = told_of left (λ t. Gives t v.at.header (raw v.frames ++ v.next ∷ [])) text told v.text in
      record {
        frames = λ h fs z few. not_many text h v.at.header fs v.frames v.next None z.whole few z.begins y v.whole v.all;
        short = λ h fs extra z few. absurd (short_not_many text h v.at.header fs v.frames extra v.next z few y v.whole v.all);
        many = λ h fs next z are all. inl refl;
        header = λ fault is. absurd (unopened text v.at.header y.coming fault y.begins is);
        fault = λ h fs fault are z few. absurd (not_many text h v.at.header fs v.frames v.next (Some fault) are few z y v.whole v.all);
      }

  broken_answered : (f : Y4mFault) → UnpackBroken left held f → IsAnswered left held (Err (errors.Y4m f)) text
  unfolding Hindered
  broken_answered f (UnpackBroken.in_header said took same) =
      let y = told_of left (λ t. opening t ≡ Err f) text told said in
      record {
        frames = λ h fs z few. unopened text h _ f z.begins y;
        short = λ h fs extra z few. absurd (unopened text h _ f z.begins y);
        many = λ h fs next z are all. absurd (unopened text h z.coming f z.begins y);
        header = λ fault is. inl (ap errors.Y4m (one_err (opening text) f fault y is));
        fault = λ h fs fault are z few. absurd (unopened text h _ f z y);
      }
  broken_answered f (UnpackBroken.behind k gs most whole said grown) =
      let y = told_of left (λ t. Begins t k (record { raw = raw gs; fault = Some f })) text told said in
      record {
        frames = λ h fs z few. no_fault text h k (raw fs) (raw gs) f z.begins y;
        short = λ h fs extra z few. absurd (no_fault text h k (raw fs ++ z.part) (raw gs) f z.begins y);
        many = λ h fs next z are all. absurd (not_many text k h gs fs next (Some f) whole most y z are all);
        header = λ fault is. absurd (unopened text k _ fault y is);
        fault = λ h fs fault are z few. inl (ap errors.Y4m (same_fault text k h (raw gs) (raw fs) f fault y z));
      }

  -- memory ran out, or an endpoint failed
  hindered : (e : UnpackError) → Hindered left held e → IsAnswered left held (Err e) text
  hindered e h = record {
    frames = λ k fs z few. h;
    short = λ k fs extra z few. inr h;
    many = λ k fs next z are all. inr h;
    header = λ fault is. inr h;
    fault = λ k fs fault are z few. inr h;
  }

  stops_answered : (e : UnpackError) → UnpackStops left held e → IsAnswered left held (Err e) text
  unfolding UnpackStops Hindered
  stops_answered errors.Read s = hindered errors.Read s.0
  stops_answered errors.Write s = hindered errors.Write s.0
  stops_answered (errors.ShortFrame extra) s = short_answered extra s
  stops_answered errors.TooManyFrames s = many_answered s
  stops_answered (errors.Y4m f) s = broken_answered f s
  stops_answered errors.Memory s = hindered errors.Memory tt

  pub answered : (r : Result PackSummary UnpackError) → IfOk r (Unpacked left held) → IfErr r (UnpackStops left held) → IsAnswered left held r text
  answered (Ok s) ok err = ok_answered s ok
  answered (Err e) ok err = stops_answered e err
