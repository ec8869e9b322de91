-- From the parts of the program to the headline.
use Rattle.std.proofs.Common.{ℕ, List, sym, subst, ◌⊎◌, inl, inr}
use Rattle.yices_cli.specs.declared.exit.Exit.{Exit}
use Rattle.yices_cli.specs.declared.exit.Exit.TheVariants as exit
use Rattle.yices_cli.specs.declared.words.Mode.{Mode}
use Rattle.yices_cli.specs.declared.words.Mode.TheVariants as mode
use Rattle.yices_cli.specs.Seen.{SourceSeen, SinkSeen}
use Rattle.yices_cli.specs.Headline.{StopsIn, Stops, Ends, Headline, IsOutFault, IsLineFault}
use Rattle.yices_cli.specs.Parts.{Answers, WritesOwnLine, WritesEither, WritesLine}
use Rattle.yices_cli.proofs.Forgetting.{commands_stopped, script_stopped}

-- wherever the program stops for a cause, want of memory could stand in its place
no_memory_in : (m : Mode) (input : SourceSeen) (out : SinkSeen) (e : Exit) → StopsIn m input out e → StopsIn m input out exit.NoMemory
no_memory_in (mode.Language turns) input out e h = commands_stopped turns input out e h
no_memory_in mode.Calls input out e h = script_stopped input out e h

no_memory : (words : List (List ℕ)) (input : SourceSeen) (out : SinkSeen) (e : Exit) → Stops words input out e → Stops words input out exit.NoMemory
no_memory words input out exit.Done (m, valid, h) = inr (m, valid, no_memory_in m input out exit.Done h)
no_memory words input out exit.NoMemory h = h
no_memory words input out (exit.Syntax e) (m, valid, h) = inr (m, valid, no_memory_in m input out (exit.Syntax e) h)
no_memory words input out exit.ReadFault (m, valid, h) = inr (m, valid, no_memory_in m input out exit.ReadFault h)
no_memory words input out (exit.Usage k) h = inl h.1
no_memory words input out (exit.Refused at why) (m, valid, h) = inr (m, valid, no_memory_in m input out (exit.Refused at why) h)
no_memory words input out exit.WriteFault h = absurd h
no_memory words input out (exit.TooLong kind) (m, valid, h) = inr (m, valid, no_memory_in m input out (exit.TooLong kind) h)

-- an exit that ends so meets the headline
ended : (words : List (List ℕ)) (input : SourceSeen) (out errors : SinkSeen) (e : Exit) → Ends words input out errors e → Headline words input out errors e
ended words input out errors e h = record {
  done = λ is. subst (Ends words input out errors) is h;
  no_memory = λ is. subst (Ends words input out errors) is h;
  syntax = λ fault is. subst (Ends words input out errors) is h;
  read_fault = λ is. subst (Ends words input out errors) is h;
  usage = λ k is. subst (Ends words input out errors) is h;
  refused = λ at why is. subst (Ends words input out errors) is h;
  write_fault = λ is. absurd ((subst (Ends words input out errors) is h).0);
  too_long = λ kind is. subst (Ends words input out errors) is h;
}

-- a write fault with one of its two causes does
faulty : (words : List (List ℕ)) (input : SourceSeen) (out errors : SinkSeen) → IsOutFault words input out errors ⊎ IsLineFault words input out errors → Headline words input out errors exit.WriteFault
faulty words input out errors h = record {
  done = λ is. absurd (cc is);
  no_memory = λ is. absurd (cc is);
  syntax = λ fault is. absurd (cc is);
  read_fault = λ is. absurd (cc is);
  usage = λ k is. absurd (cc is);
  refused = λ at why is. absurd (cc is);
  write_fault = λ _. h;
  too_long = λ kind is. absurd (cc is);
}

-- a line of its own
own : (words : List (List ℕ)) (input : SourceSeen) (out errors : SinkSeen) (e result : Exit) → Stops words input out e
    → WritesOwnLine errors.old errors.new errors.before errors.after e result → Headline words input out errors result
own words input out errors e result due (inl whole) = subst (Headline words input out errors) (sym whole.0) (ended words input out errors e (due, whole.1))
own words input out errors e result due (inr part) =
    subst (Headline words input out errors) (sym part.0) (faulty words input out errors (inr (record { cause = e; due = due; rose = part.1; written = part.2 })))

either : (words : List (List ℕ)) (input : SourceSeen) (out errors : SinkSeen) (e result : Exit) → Stops words input out e
    → WritesEither errors.old errors.new errors.before errors.after e result → Headline words input out errors result
either words input out errors e result due (inl h) = own words input out errors e result due h
either words input out errors e result due (inr h) = own words input out errors exit.NoMemory result (no_memory words input out e due) h

-- the whole
pub headline_at : (words : List (List ℕ)) (input : SourceSeen) (out errors : SinkSeen) (e result : Exit) → Answers words input out e
    → WritesLine errors.old errors.new errors.before errors.after e result → Headline words input out errors result
headline_at words input out errors e result (inl due) (inl h) = absurd (subst (Stops words input out) h.0 due)
headline_at words input out errors e result (inl due) (inr h) = either words input out errors e result due h.1
headline_at words input out errors e result (inr (m, valid, cut)) (inl h) =
    subst (Headline words input out errors) (sym h.1.0) (faulty words input out errors (inl (record { mode = m; valid = valid; cut = cut.1; count = h.1.1.0; written = h.1.1.1 })))
headline_at words input out errors e result (inr (m, valid, cut)) (inr h) = absurd (h.0 cut.0)
