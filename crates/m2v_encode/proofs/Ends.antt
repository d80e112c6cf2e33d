-- The end of the stream: the last group, and the end code.
use Rattle.std.proofs.Common.{◌≡◌, ℕ, ◌+◌, ◌*◌, ◌≤◌, inl, Bool, true, false, List, [], ◌∷◌, ◌++◌, Option, refl, sym, ap, subst, ◌∙◌, arith}
use Rattle.m2v_bits.specs.Bits.{packed, number, bits_of, start_code, IsEdge}
use Rattle.m2v_bits.proofs.Units.{packed-append}
use Rattle.m2v_port.specs.Ends.{Change, change}
use Rattle.m2v_port.specs.Port.{Grows, GrowsByPrefix}
use Rattle.m2v_port.proofs.Runs.{rose_since, prefix_on, grows_on, grows_by_all}
use Rattle.m2v_plane.specs.Raw.{raw}
use Rattle.m2v_plane.specs.Samples.{Samples}
use Rattle.m2v_order.specs.Groups.{Queue, Group, is_due, group_of}
use Rattle.m2v_slice.specs.Books.{Book}
use Rattle.m2v_encode.specs.declared.answer.Summary.{Summary}
use Rattle.m2v_encode.specs.declared.answer.EncodeError.{EncodeError}
use Rattle.m2v_encode.specs.declared.answer.EncodeError.TheVariants.{Read, Write, ShortFrame, NoFrames, TooManyFrames, Memory}
use Rattle.m2v_encode.specs.declared.group.Coder.{Coder}
use Rattle.m2v_encode.specs.Groups.{group_text, group_shown}
use Rattle.m2v_encode.specs.Steps.{PutStops, book_by, GroupCoded, GroupStops, EndCoded, EndCut, EndStops, end_bytes}
use Rattle.m2v_encode.proofs.Progress.{packed_front, prefix_by}

-- the bytes of the end code
pub end_code : 0 ∷ 0 ∷ 1 ∷ 183 ∷ [] ≡ packed (start_code 0xB7)
unfolding packed number bits_of
end_code = refl

cut_by : (c : Coder) (b : Book) (held recon : Change) → GrowsByPrefix held.old (packed (group_text b true (8 * c.total.bytes))) held.new
    → GrowsByPrefix recon.old (raw (group_shown b)) recon.new → EndCut c b held recon
cut_by c b held recon grown shown =
    let more = packed_front (group_text b true (8 * c.total.bytes)) (start_code 0xB7) in
    record { grown = prefix_by held.old held.new (packed (group_text b true (8 * c.total.bytes))) (end_bytes b (8 * c.total.bytes)) more.0 more.1 grown; shown = shown }

-- the last group stopped
pub end_group : (c : Coder) (q : Queue Samples) (g : Group Samples) (held recon : Change) (e : EncodeError) → is_due q ≡ true → g ≡ group_of q
    → GroupStops (book_by c g) true (8 * c.total.bytes) held recon e → EndStops c q held recon e
unfolding GroupStops EndStops
end_group c q g held recon Read due is h = absurd h
end_group c q g held recon Write due is h = (h.0, (due, subst (λ (x : Group Samples). EndCut c (book_by c x) held recon) is (cut_by c (book_by c g) held recon h.1.0 h.1.1)))
end_group c q g held recon (ShortFrame extra) due is h = absurd h
end_group c q g held recon NoFrames due is h = absurd h
end_group c q g held recon TooManyFrames due is h = absurd h
end_group c q g held recon Memory due is h = inl (due, subst (λ (x : Group Samples). EndCut c (book_by c x) held recon) is (cut_by c (book_by c g) held recon h.0 h.1))

pub end_group_by : (c : Coder) (q r : Queue Samples) (g : Group Samples) (held recon : Change) (e : EncodeError) → q ≡ r → is_due q ≡ true → g ≡ group_of q
    → GroupStops (book_by c g) true (8 * c.total.bytes) held recon e → EndStops c r held recon e
end_group_by c q r g held recon e same due is h = subst (λ (x : Queue Samples). EndStops c x held recon e) same (end_group c q g held recon e due is h)

pub none_false : (t : Bool) → (t ≡ true → ⊥) → t ≡ false
none_false true n = absurd (n refl)
none_false false n = refl

module _ {K N : Type 0} (held : K → Option (List ℕ)) (output_faults : K → ℕ) (kept : N → Option (List ℕ)) (recon_faults : N → ℕ) where
  end_is : (c d : Coder) (b : Book) (o0 o1 : K) (r0 r1 : N) (bytes : List ℕ) → bytes ≡ packed (start_code 0xB7) → GroupCoded c d b true (change held output_faults o0 o1) (change kept recon_faults r0 r1)
      → packed (group_text b true (8 * c.total.bytes)) ++ bytes ≡ end_bytes b (8 * c.total.bytes)
  end_is c d b o0 o1 r0 r1 bytes is coded =
      let g = group_text b true (8 * c.total.bytes) in
      let edge : IsEdge g = omega (arith, coded.bytes) in
      ap (λ (t : List ℕ). packed g ++ t) is ∙ sym (packed-append g (start_code 0xB7) edge)

  put_cut : (c d : Coder) (b : Book) (o0 o1 o2 : K) (r0 r1 : N) (bytes : List ℕ) → bytes ≡ packed (start_code 0xB7)
      → GroupCoded c d b true (change held output_faults o0 o1) (change kept recon_faults r0 r1) → GrowsByPrefix (held o1) bytes (held o2)
      → EndCut c b (change held output_faults o0 o2) (change kept recon_faults r0 r1)
  put_cut c d b o0 o1 o2 r0 r1 bytes is coded last = record {
    grown = subst (λ (t : List ℕ). GrowsByPrefix (held o0) t (held o2)) (end_is c d b o0 o1 r0 r1 bytes is coded) (prefix_on coded.grown last);
    shown = grows_by_all coded.shown;
  }

  -- the end code stopped
  pub end_put : (c d : Coder) (q : Queue Samples) (g : Group Samples) (o0 o1 o2 : K) (r0 r1 : N) (bytes : List ℕ) (e : EncodeError) → is_due q ≡ true → g ≡ group_of q → bytes ≡ packed (start_code 0xB7)
      → output_faults o0 ≤ output_faults o1 → GroupCoded c d (book_by c g) true (change held output_faults o0 o1) (change kept recon_faults r0 r1)
      → PutStops bytes (change held output_faults o1 o2) e → EndStops c q (change held output_faults o0 o2) (change kept recon_faults r0 r1) e
  unfolding PutStops EndStops
  end_put c d q g o0 o1 o2 r0 r1 bytes Read due is same le coded h = absurd h
  end_put c d q g o0 o1 o2 r0 r1 bytes Write due is same le coded h =
      (inl (rose_since le h.0), (due, subst (λ (x : Group Samples). EndCut c (book_by c x) (change held output_faults o0 o2) (change kept recon_faults r0 r1)) is (put_cut c d (book_by c g) o0 o1 o2 r0 r1 bytes same coded h.1)))
  end_put c d q g o0 o1 o2 r0 r1 bytes (ShortFrame extra) due is same le coded h = absurd h
  end_put c d q g o0 o1 o2 r0 r1 bytes NoFrames due is same le coded h = absurd h
  end_put c d q g o0 o1 o2 r0 r1 bytes TooManyFrames due is same le coded h = absurd h
  end_put c d q g o0 o1 o2 r0 r1 bytes Memory due is same le coded h =
      inl (due, subst (λ (x : Group Samples). EndCut c (book_by c x) (change held output_faults o0 o2) (change kept recon_faults r0 r1)) is (put_cut c d (book_by c g) o0 o1 o2 r0 r1 bytes same coded h))

  -- all was written
  pub end_all : (n : ℕ) (c d : Coder) (q : Queue Samples) (g : Group Samples) (o0 o1 o2 : K) (r0 r1 : N) (bytes : List ℕ) (t : Summary) → g ≡ group_of q → bytes ≡ packed (start_code 0xB7)
      → GroupCoded c d (book_by c g) true (change held output_faults o0 o1) (change kept recon_faults r0 r1) → Grows (held o1) bytes (held o2)
      → t ≡ record d.total { frames = n; bytes = d.total.bytes + 4 } → EndCoded c n (book_by c (group_of q)) (change held output_faults o0 o2) (change kept recon_faults r0 r1) t
  end_all n c d q g o0 o1 o2 r0 r1 bytes t is same coded last total =
      subst (λ (x : Group Samples). EndCoded c n (book_by c x) (change held output_faults o0 o2) (change kept recon_faults r0 r1) t) is (record {
        grown = subst (λ (z : List ℕ). Grows (held o0) z (held o2)) (end_is c d (book_by c g) o0 o1 r0 r1 bytes same coded) (grows_on coded.grown last);
        shown = coded.shown;
        frames = ap (λ (x : Summary). x.frames) total;
        pictures = ap (λ (x : Summary). x.pictures) total ∙ coded.pictures;
        bytes = omega (arith, ap (λ (x : Summary). x.bytes) total, coded.bytes);
        stuffing = ap (λ (x : Summary). 8 * x.stuffing) total ∙ coded.stuffing;
      })

  pub end_put_by : (c d : Coder) (q r : Queue Samples) (g : Group Samples) (o0 o1 o2 : K) (r0 r1 : N) (bytes : List ℕ) (e : EncodeError) → q ≡ r → is_due q ≡ true → g ≡ group_of q → bytes ≡ packed (start_code 0xB7)
      → output_faults o0 ≤ output_faults o1 → GroupCoded c d (book_by c g) true (change held output_faults o0 o1) (change kept recon_faults r0 r1)
      → PutStops bytes (change held output_faults o1 o2) e → EndStops c r (change held output_faults o0 o2) (change kept recon_faults r0 r1) e
  end_put_by c d q r g o0 o1 o2 r0 r1 bytes e queue due is same le coded h =
      subst (λ (x : Queue Samples). EndStops c x (change held output_faults o0 o2) (change kept recon_faults r0 r1) e) queue (end_put c d q g o0 o1 o2 r0 r1 bytes e due is same le coded h)

  pub end_all_by : (n : ℕ) (c d : Coder) (q r : Queue Samples) (g : Group Samples) (o0 o1 o2 : K) (r0 r1 : N) (bytes : List ℕ) (t : Summary) → q ≡ r → g ≡ group_of q → bytes ≡ packed (start_code 0xB7)
      → GroupCoded c d (book_by c g) true (change held output_faults o0 o1) (change kept recon_faults r0 r1) → Grows (held o1) bytes (held o2)
      → t ≡ record d.total { frames = n; bytes = d.total.bytes + 4 } → EndCoded c n (book_by c (group_of r)) (change held output_faults o0 o2) (change kept recon_faults r0 r1) t
  end_all_by n c d q r g o0 o1 o2 r0 r1 bytes t queue is same coded last total =
      subst (λ (x : Queue Samples). EndCoded c n (book_by c (group_of x)) (change held output_faults o0 o2) (change kept recon_faults r0 r1) t) queue
      (end_all n c d q g o0 o1 o2 r0 r1 bytes t is same coded last total)
