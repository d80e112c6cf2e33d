-- The report of a stream without a fault stands in the report of an input, and what follows it behind.
use Rattle.std.proofs.Common.{◌≡◌, ℕ, ◌+◌, ◌-◌, ◌*◌, Bool, false, List, [], ◌∷◌, length, Option, Ok, Err, refl, sym, ap, subst, ◌∙◌}
use Rattle.m2v_bits.specs.Syntax.{seq, bind, rule, done}
use Rattle.m2v_model.specs.declared.fault.FaultKind.{FaultKind}
use Rattle.m2v_model.specs.declared.fault.FaultKind.TheVariants.{NoSequence}
use Rattle.m2v_model.specs.Streams.{Sofar, text_end}
use Rattle.m2v_model.specs.Pictures.{Events}
use Rattle.m2v_model.specs.Pieces.{pieces, before_pieces, Limit}
use Rattle.m2v_model.specs.PieceNotes.{notes_of}
use Rattle.m2v_model.specs.Decoding.{Stream}
use Rattle.m2v_model.specs.ByPieces.{Between, Course, at_start, read_of, unit_read, piece_read, end_of, end_read, text_ended, continued}
use Rattle.m2v_model.proofs.FlowLaws.{read_err}
use Rattle.m2v_model.proofs.PieceLaws.{placed, piece_is, piece_none, rest_read, rest_none, rest_more, text_rest}
use Rattle.m2v_audit.specs.declared.auditing.Auditing.{Auditing}
use Rattle.m2v_audit.specs.Auditing.{nothing, cleared, after_piece}
use Rattle.m2v_audit.specs.Audited.{Audited, Telling, then_comes, unless_passed, piece_told, end_told, pieces_told}
use Rattle.m2v_law_audit.specs.Sequences.{SequenceReport, behind, by_piece, reported, first_byte, PassNone, StandsIn}
use Rattle.m2v_audit.proofs.m2v_check.Checking.{units_of_piece}
use Rattle.m2v_audit.proofs.LeadLaws.{both_come}
use Rattle.m2v_audit.specs.declared.asked.Asked.{Asked}
use Rattle.m2v_law_audit.proofs.AccountReading.{behind_ok, ended_ok, stream_read}

-- ---- a stream is read by its pieces

-- it's read without a fault, and behind its last piece its end
rest_of : (text : List ℕ) (tree : Sofar) → Stream text tree → rest_read at_start (length (before_pieces text)) (pieces text) ≡ Ok (read_of at_start tree)
rest_of text tree s = sym (text_rest text) ∙ stream_read text tree s

-- a text without a piece has no sequence
none_begun : (end : ℕ) → end_read at_start end ≡ Err (NoSequence, 8 * end - 0)
unfolding unit_read text_end seq bind rule done
none_begun end = ap (text_ended end) (piece_none at_start end ∙ ap (placed end) (read_err at_start [] (NoSequence, 0) refl))

not_both : (r : Course) (f : FaultKind × ℕ) (x : Events × Between) → r ≡ Err f → r ≡ Ok x → ⊥
not_both (Ok z) f x e g = absurd cc
not_both (Err z) f x e g = absurd cc

some_piece : (at : ℕ) (x : Events × Between) → rest_read at_start at [] ≡ Ok x → ⊥
some_piece at x e = not_both (end_read at_start at) (NoSequence, 8 * at - 0) x (none_begun at) (sym (rest_none at_start at) ∙ e)

-- ---- wherever it begins

-- what is read of a piece is the same wherever it ends
piece_elsewhere : (b : Between) (end to : ℕ) (p : List ℕ) (x : Events × Between) → piece_read b end p ≡ Ok x → piece_read b to p ≡ Ok x
piece_elsewhere b end to p x e = piece_is b to p ∙ ap (placed to) (units_of_piece b end p x e)

end_elsewhere : (b : Between) (end to : ℕ) (x : Events × Between) → end_read b end ≡ Ok x → end_read b to ≡ Ok x
end_elsewhere b end to x e =
    let h = ended_ok end (piece_read b end []) x e in
    ap (text_ended to) (piece_elsewhere b end to [] x h.0) ∙ rw h.1 refl

-- ---- what is told of it

module _ (x : Telling) where
  -- a report, and what comes behind it, as its last piece ends at a byte
  abbrev told_with : SequenceReport → ℕ → Audited
  told_with own end = then_comes own.lines (x.next own.kept end)

  -- a text without a fault from a byte on; its pieces were read as if they began elsewhere
  abbrev Onward : ℕ → List (List ℕ) → Type 0
  Onward at ps = (a : Auditing) (b : Between) (optional : Bool) (before : ℕ) (y : Events × Between) → rest_read b before ps ≡ Ok y → PassNone at ps → (ps ≡ [] → optional ≡ false)
      → pieces_told x optional a b at ps ≡ told_with (reported a b at ps) (end_of at ps)

  end_stands : (at : ℕ) → Onward at []
  unfolding pieces_told reported end_of
  end_stands at a b optional before y e pass off =
      let read : end_read b at ≡ Ok y = end_elsewhere b before at y (sym (rest_none b before) ∙ e) in
      ap (λ (l : Option Limit). unless_passed l x a (end_told x optional a at (end_read b at))) pass
      ∙ ap (λ (o : Bool). end_told x o a at (end_read b at)) (off refl)
      ∙ ap (end_told x false a at) read

  piece_stands : (at : ℕ) (p : List ℕ) (ps : List (List ℕ)) (a : Auditing) (b : Between) (before : ℕ) (y : Events × Between) (read : Course)
      → piece_read b (before + length p) p ≡ read → continued read (λ next. rest_read next (before + length p) ps) ≡ Ok y
      → PassNone (at + length p) ps → Onward (at + length p) ps
      → piece_told x a at p ps (piece_read b (at + length p) p) (λ a' b'. pieces_told x false a' b' (at + length p) ps)
      ≡ told_with (by_piece a at p (piece_read b (at + length p) p) (λ a' b'. reported a' b' (at + length p) ps)) (end_of (at + length p) ps)
  unfolding continued
  piece_stands at p ps a b before y (Ok z) is e pass rest =
      let to = at + length p in
      let later = behind_ok z.0 (rest_read z.1 (before + length p) ps) y.0 y.1 e in
      let told = after_piece a at p (notes_of at p z.0) in
      let next : pieces_told x false (cleared told) z.1 to ps ≡ told_with (reported (cleared told) z.1 to ps) (end_of to ps) =
      rest (cleared told) z.1 false (before + length p) (later.0, y.1) later.1 pass (λ none. refl) in
      let own = reported (cleared told) z.1 to ps in
      let here : then_comes told.report.text (pieces_told x false (cleared told) z.1 to ps) ≡ told_with (behind told.report.text own) (end_of to ps) =
      ap (then_comes told.report.text) next ∙ both_come told.report.text own.lines _ in
      subst (λ (r : Course). piece_told x a at p ps r (λ a' b'. pieces_told x false a' b' to ps) ≡ told_with (by_piece a at p r (λ a' b'. reported a' b' to ps)) (end_of to ps))
      (sym (piece_elsewhere b (before + length p) to p z is)) here
  piece_stands at p ps a b before y (Err f) is e pass rest = absurd cc

  stands_on : (at : ℕ) (ps : List (List ℕ)) → Onward at ps
  unfolding pieces_told reported end_of
  stands_on at [] a b optional before y e pass off = end_stands at a b optional before y e pass off
  stands_on at (p ∷ ps) a b optional before y e pass off =
      let to = at + length p in
      ap (λ (l : Option Limit). unless_passed l x a (piece_told x a at p ps (piece_read b to p) (λ a' b'. pieces_told x false a' b' to ps))) pass.0
      ∙ piece_stands at p ps a b before y (piece_read b (before + length p) p) refl (sym (rest_more b before p ps) ∙ e) pass.1 (stands_on to ps)

no_piece : (ps : List (List ℕ)) (at : ℕ) (y : Events × Between) → rest_read at_start at ps ≡ Ok y → ps ≡ [] → ⊥
no_piece ps at y e none = some_piece at y (ap (rest_read at_start at) (sym none) ∙ e)

pub stands_in : (text : List ℕ) (tree : Sofar) → Stream text tree → (asked : Asked) (x : Telling) (later : Bool) → PassNone (first_byte x.start text) (pieces text) → StandsIn asked x later text
stands_in text tree s asked x later pass =
    let whole = read_of at_start tree in
    let read = rest_of text tree s in
    let before = length (before_pieces text) in
    stands_on x (first_byte x.start text) (pieces text) (nothing x.totals.sequences asked x.start) at_start later before whole read pass
    (λ none. absurd (no_piece (pieces text) before whole read none))
