use Rattle.yices_text.proofs.Holding.{fed_begins, fed_small, fed_works, fed_faulty}
use Rattle.yices_text.proofs.reader.Reader.feed.Goals as goal

pub invariant_of-self : goal.invariant_of-self
invariant_of-self c = record {
  begins = fed_begins c.self.inside c.args.self.now c.self.view_is c.self.invariant c.requires.unfinished c.args.piece.now c.made.result.value c.made.ensures;
  small = fed_small c.self.inside c.args.self.now c.self.view_is c.self.invariant c.requires.unfinished c.args.piece.now c.made.result.value c.made.ensures c.requires.small;
  works = λ n. fed_works c.self.inside c.args.self.now c.self.view_is c.self.invariant c.requires.unfinished c.args.piece.now c.made.result.value c.made.ensures _ c.in-Ok.fault c.in-Ok.ensures n;
  faulty = λ e h. fed_faulty c.self.inside c.args.self.now c.self.view_is c.self.invariant c.requires.unfinished c.args.piece.now c.made.result.value c.made.ensures e h;
}
