-- The end of a text: it is skipped, its sequence ends there, or it has a fault.
use Rattle.std.proofs.Common.{◌≡◌, ◌⊎◌, inl, inr, ℕ, ◌*◌, ◌<◌, ◌≤◌, Bool, true, false, [], Ok, Err, refl, sym, ap, ◌∙◌}
use Rattle.m2v_port.specs.Ends.{Change}
use Rattle.m2v_bits.specs.Syntax.{seq, bind, rule, done}
use Rattle.m2v_model.specs.declared.fault.FaultKind.TheVariants.{NoSequence}
use Rattle.m2v_model.specs.States.{at_first}
use Rattle.m2v_model.specs.Streams.{text_end}
use Rattle.m2v_model.specs.Pictures.{no_frames}
use Rattle.m2v_model.specs.ByPieces.{Between, Course, at_start, end_read}
use Rattle.m2v_dec_piece.specs.declared.answer.Fault.{Fault}
use Rattle.m2v_dec_piece.specs.declared.answer.DecodeError.TheVariants as errors
use Rattle.m2v_dec_piece.specs.Cutting.{Cutting}
use Rattle.m2v_strict.specs.m2v_check.m2v_decode.Decoding.{Decoding, between, Finished}
use Rattle.m2v_strict.specs.m2v_check.m2v_decode.Reading.{Reading}
use Rattle.m2v_strict.proofs.m2v_check.m2v_decode.EndLaws.{end_broken}
use Rattle.m2v_audit.specs.Auditing.{Auditing}
use Rattle.m2v_audit.specs.Audited.{then_comes, end_told}
use Rattle.m2v_audit.specs.Leading.{pieces_from, AreTold, IsTextRead, TextStops}

-- the first text of an input has a sequence, or a fault
none_begun : (end : ℕ) → end_read at_start end ≡ Err (NoSequence, 8 * end)
unfolding text_end seq bind rule done
none_begun end = end_broken at_first no_frames end 0 NoSequence refl refl

module _ (left held : Change) (later : Bool) (a : Auditing) (c : Cutting) (a' : Auditing) (r' : Reading) (c' : Cutting) where
  -- it has no sequence, and needs none
  pub ends_skipped : AreTold left held later a c true a' r' c' → IsTextRead left held later a c true a' c'
  ends_skipped t = record { leads = t.leads; text = t.text; place = t.place; some = λ e. absurd cc }

  -- its sequence ends
  pub ends_whole : (t : AreTold left held later a c false a' r' c') (d : Decoding) → Finished t.decoder c'.place d → IsTextRead left held later a c false a' c'
  ends_whole t d f = record {
    leads = record {
      bytes = t.leads.bytes;
      moved = t.leads.moved;
      lines = t.leads.lines;
      grown = t.leads.grown;
      told = λ rest e x. t.leads.told rest e x ∙ ap (λ (r : Course). then_comes t.leads.lines (end_told x false a' c'.place r)) f.read;
    };
    text = t.text;
    place = t.place;
    some = λ same. some_is t.some;
  }
    where
      some_is : (c.place < c'.place) ⊎ ((false ≡ later) × (between t.decoder ≡ at_start) × (c.place ≤ c'.place)) → c.place < c'.place
      some_is (inl lt) = lt
      some_is (inr none) =
          let ok : end_read at_start c'.place ≡ Ok ([], between d) = ap (λ (b : Between). end_read b c'.place) (sym none.1) ∙ f.read in
          let err : end_read at_start c'.place ≡ Err (NoSequence, 8 * c'.place) = none_begun c'.place in
          absurd cc

  -- it has a fault there
  pub ends_fault : (t : AreTold left held later a c false a' r' c') (f : Fault) → c'.failed ≡ false → end_read (between t.decoder) c'.place ≡ Err (f.kind, f.place) → TextStops left held (pieces_from later a at_start c) later c a' c' (errors.Stream f)
  ends_fault t f going e = record {
    pieces = λ rest. [];
    leads = record {
      bytes = t.leads.bytes;
      moved = t.leads.moved;
      lines = t.leads.lines;
      grown = t.leads.grown;
      told = λ rest q x. t.leads.told rest q x ∙ ap (λ (r : Course). then_comes t.leads.lines (end_told x false a' c'.place r)) e;
    };
    text = t.text;
    place = t.place;
    some = some_far t.some;
    going = going;
  }
    where
      some_far : (c.place < c'.place) ⊎ ((false ≡ later) × (between t.decoder ≡ at_start) × (c.place ≤ c'.place)) → (c.place < c'.place) ⊎ ((later ≡ false) × (c.place ≤ c'.place))
      some_far (inl lt) = inl lt
      some_far (inr none) = inr (sym none.0, none.2)
