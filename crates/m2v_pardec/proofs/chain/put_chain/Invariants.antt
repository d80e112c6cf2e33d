use Rattle.std.proofs.Common.{◌≡◌, ℕ, ◌<◌, ◌≤◌, List, ◌++◌, map, Option}
use Rattle.m2v_port.specs.Ends.{SinkStays}
use Rattle.m2v_pardec.specs.declared.taking.Stop.TheVariants.{More}
use Rattle.m2v_pardec.specs.Ahead.{later_of, IsAhead}
use Rattle.m2v_pardec.specs.Taken.{piece_of, pieces_of, works_left, ReadOn}
use Rattle.m2v_pardec.specs.Chain.{IsUnderWay}
use Rattle.m2v_pardec.proofs.chain.put_chain.Given as goal

abbrev pub invariant-loop-worked : goal.invariant-loop-worked
invariant-loop-worked g l = record {
  done : l.worked.done ≡ l.worked.book;
  ahead : (bl bf : Option (List ℕ)) → IsAhead (later_of l.fn.taken.stop l.fn.stream.cutter) bl (g.S.Source.left l.fn.input) bf (g.K.Sink.held l.fn.output) (pieces_of l.fn.taken) l.fn.stream.decoder
      → IsAhead (later_of l.next.stop l.stream.cutter) bl (g.S.Source.left l.input) bf (g.K.Sink.held l.output) (map piece_of l.worked.book.pictures ++ pieces_of l.next) l.stream.decoder;
  under : IsUnderWay l.worked.book l.worked.after.items l.next l.stream.cutter l.stream.decoder;
  rises : (low : ℕ) → (l.fn.taken.stop ≡ More → low < l.fn.stream.cutter.place) → l.next.stop ≡ More → low < l.stream.cutter.place;
  read : ReadOn l.fn.taken.stop l.next.stop (g.S.Source.faults l.fn.input) (g.S.Source.faults l.input);
  output : SinkStays g.K.Sink.ready g.K.Sink.name g.K.Sink.faults l.fn.output l.output;
  input : g.S.Source.faults l.fn.input ≤ g.S.Source.faults l.input;
}

abbrev pub decreases-loop-worked : goal.decreases-loop-worked
decreases-loop-worked g l = works_left l.next l.stream.cutter
