use Rattle.yices_text.proofs.Holding.{next_begins, next_works, next_faulty, next_got, no_fault_got, kept_works, stops_here, stops_value, waits_value, whole_value, none_exactly, failed_before, failed_same, only_fault}
use Rattle.yices_text.proofs.reader.Reader.next.Goals as goal

pub returns-in-Some-clause-exactly : goal.returns-in-Some-clause-exactly
returns-in-Some-clause-exactly c = λ f h. only_fault _ _ _ c.in-Some.error f (failed_before c.self.inside c.args.self.now c.in-Some.error c.self.view_is c.self.invariant c.in-Some.is) h

pub invariant_of-self : goal.invariant_of-self
invariant_of-self c = record {
  begins = next_begins c.self.inside c.args.self.now c.self.view_is c.self.invariant c.in_default.is c.settle-self-inside.new.scanner c.settle-self-inside.result c.settle-self-inside.ensures.works c.in-Some-pop.command c.pop.new.self c.in-Some-pop.ensures c.made.result.value c.made.ensures;
  small = c.self.invariant.small;
  works = λ n. next_works c.self.inside c.args.self.now c.self.view_is c.self.invariant c.in_default.is c.settle-self-inside.new.scanner c.settle-self-inside.result c.settle-self-inside.ensures.works c.in-Some-pop.command c.pop.new.self c.in-Some-pop.ensures c.made.result.value c.made.ensures;
  faulty = λ e h. next_faulty c.self.inside c.args.self.now c.self.view_is c.self.invariant c.in_default.is c.settle-self-inside.new.scanner c.settle-self-inside.result c.settle-self-inside.ensures.works c.in-Some-pop.command c.pop.new.self c.in-Some-pop.ensures c.made.result.value c.made.ensures e h;
}

pub returns-in-Some-pop-clause-got : goal.returns-in-Some-pop-clause-got
returns-in-Some-pop-clause-got c = next_got c.self.inside c.args.self.now c.self.view_is c.self.invariant c.in_default.is c.settle-self-inside.new.scanner c.settle-self-inside.result c.settle-self-inside.ensures.works c.in-Some-pop.command c.pop.new.self c.in-Some-pop.ensures c.made.result.value c.made.ensures

pub returns-in-Some-pop-clause-begins : goal.returns-in-Some-pop-clause-begins
returns-in-Some-pop-clause-begins c = next_begins c.self.inside c.args.self.now c.self.view_is c.self.invariant c.in_default.is c.settle-self-inside.new.scanner c.settle-self-inside.result c.settle-self-inside.ensures.works c.in-Some-pop.command c.pop.new.self c.in-Some-pop.ensures c.made.result.value c.made.ensures

pub returns-in-Some-pop-clause-exactly : goal.returns-in-Some-pop-clause-exactly
returns-in-Some-pop-clause-exactly c = λ f h. no_fault_got c.args.self.now.finished c.args.self.now.fed c.args.self.now.answered c.in-Some-pop.command f (next_got c.self.inside c.args.self.now c.self.view_is c.self.invariant c.in_default.is c.settle-self-inside.new.scanner c.settle-self-inside.result c.settle-self-inside.ensures.works c.in-Some-pop.command c.pop.new.self c.in-Some-pop.ensures c.made.result.value c.made.ensures) h

pub invariant_of-self-in-Some-fault : goal.invariant_of-self-in-Some-fault
invariant_of-self-in-Some-fault c = record {
  begins = c.self.invariant.begins;
  small = c.self.invariant.small;
  works = λ n. kept_works c.self.inside c.args.self.now c.self.view_is c.self.invariant c.in_default.is c.settle-self-inside.new.scanner c.settle-self-inside.result c.settle-self-inside.ensures.works c.pop.new.self c.in_default-pop.ensures.0 c.in_default-pop.ensures.1;
  faulty = λ x h. failed_same _ _ _ c.in-Some-fault.error x (stops_here c.self.inside c.args.self.now c.self.view_is c.self.invariant c.in_default.is c.settle-self-inside.new.scanner c.settle-self-inside.result c.settle-self-inside.ensures.works c.pop.new.self c.in_default-pop.ensures.0 c.in_default-pop.ensures.1 c.in-Some-fault.error c.in-Some-fault.is) h;
}

pub invariant_of-self-in-None : goal.invariant_of-self-in-None
invariant_of-self-in-None c = record {
  begins = c.self.invariant.begins;
  small = c.self.invariant.small;
  works = λ n. kept_works c.self.inside c.args.self.now c.self.view_is c.self.invariant c.in_default.is c.settle-self-inside.new.scanner c.settle-self-inside.result c.settle-self-inside.ensures.works c.pop.new.self c.in_default-pop.ensures.0 c.in_default-pop.ensures.1;
  faulty = c.self.invariant.faulty;
}

pub returns-in-Some-fault-clause-fault : goal.returns-in-Some-fault-clause-fault
returns-in-Some-fault-clause-fault c = stops_value c.self.inside c.args.self.now c.self.view_is c.self.invariant c.in_default.is c.settle-self-inside.new.scanner c.settle-self-inside.result c.settle-self-inside.ensures.works c.pop.new.self c.in_default-pop.ensures.0 c.in_default-pop.ensures.1 c.in-Some-fault.error c.in-Some-fault.is

pub returns-in-Some-fault-clause-exactly : goal.returns-in-Some-fault-clause-exactly
returns-in-Some-fault-clause-exactly c = λ f h. only_fault _ _ _ c.in-Some-fault.error f (stops_value c.self.inside c.args.self.now c.self.view_is c.self.invariant c.in_default.is c.settle-self-inside.new.scanner c.settle-self-inside.result c.settle-self-inside.ensures.works c.pop.new.self c.in_default-pop.ensures.0 c.in_default-pop.ensures.1 c.in-Some-fault.error c.in-Some-fault.is) h

pub returns-in-None-clause-whole : goal.returns-in-None-clause-whole
returns-in-None-clause-whole c = λ e done. whole_value c.self.inside c.args.self.now c.self.view_is c.self.invariant c.in_default.is c.settle-self-inside.new.scanner c.settle-self-inside.result c.settle-self-inside.ensures.works c.pop.new.self c.in_default-pop.ensures.0 c.in_default-pop.ensures.1 c.settle-self-inside.ensures.whole c.in-None.is done

pub returns-in-None-clause-waiting : goal.returns-in-None-clause-waiting
returns-in-None-clause-waiting c = λ e going. (waits_value c.self.inside c.args.self.now c.self.view_is c.self.invariant c.in_default.is c.settle-self-inside.new.scanner c.settle-self-inside.result c.settle-self-inside.ensures.works c.pop.new.self c.in_default-pop.ensures.0 c.in_default-pop.ensures.1 c.in-None.is going).no_command

pub returns-in-None-clause-exactly : goal.returns-in-None-clause-exactly
returns-in-None-clause-exactly c = λ f h. none_exactly c.self.inside c.args.self.now c.self.view_is c.self.invariant c.in_default.is c.settle-self-inside.new.scanner c.settle-self-inside.result c.settle-self-inside.ensures.works c.pop.new.self c.in_default-pop.ensures.0 c.in_default-pop.ensures.1 c.settle-self-inside.ensures.whole c.in-None.is f h
