use Rattle.std.proofs.Common.{sym, ap, length, ◌∙◌, ◌++◌, ◌∷◌, []}
use Rattle.clause_trail.specs.View.{lists_of}
use Rattle.clause_trail.proofs.Growing.{roomier_sound, roomier_same}
use Rattle.clause_trail.proofs.Attaching.{pairs_cut_at, pairs_push_at, prepared_at}
use Rattle.clause_trail.proofs.State.prepare.Goals as goal

pub returns-in_err-list_both-clause-sound : goal.returns-in_err-list_both-clause-sound
returns-in_err-list_both-clause-sound c = roomier_sound (lists_of c.args.self.now) (lists_of c.list_both.new.self) c.list_both.ensures.roomier c.requires.sound

pub returns-in_err-push-clause-sound : goal.returns-in_err-push-clause-sound
returns-in_err-push-clause-sound c =
    pairs_cut_at (lists_of c.list_both.new.self) c.len-c.result c.push.new.self.items
    (roomier_sound (lists_of c.args.self.now) (lists_of c.list_both.new.self) c.list_both.ensures.roomier c.requires.sound)
    (c.len-c.ensures ∙ c.args.self.now.clauses.ok.0 ∙ ap length (sym c.list_both.ensures.roomier.clauses))
    (c.in_err-push.ensures.items ∙ c.truncate.ensures.items)

pub returns-clause-sound : goal.returns-clause-sound
returns-clause-sound c =
    pairs_push_at (lists_of c.list_both.new.self) c.len-c.result c.push.new.self.items c.args.pair
    (roomier_sound (lists_of c.args.self.now) (lists_of c.list_both.new.self) c.list_both.ensures.roomier c.requires.sound)
    (c.len-c.ensures ∙ c.args.self.now.clauses.ok.0 ∙ ap length (sym c.list_both.ensures.roomier.clauses))
    (c.in_ok-push.ensures.items ∙ ap (λ xs. xs ++ c.args.pair ∷ []) c.truncate.ensures.items)
    c.in_ok-list_both.ensures.ok

pub returns-clause-ok : goal.returns-clause-ok
returns-clause-ok c =
    prepared_at (lists_of c.list_both.new.self) c.len-c.result c.push.new.self.items c.args.pair
    (roomier_sound (lists_of c.args.self.now) (lists_of c.list_both.new.self) c.list_both.ensures.roomier c.requires.sound)
    (c.len-c.ensures ∙ c.args.self.now.clauses.ok.0 ∙ ap length (sym c.list_both.ensures.roomier.clauses))
    (c.in_ok-push.ensures.items ∙ ap (λ xs. xs ++ c.args.pair ∷ []) c.truncate.ensures.items)

pub returns-in_err-list_both-clause-same : goal.returns-in_err-list_both-clause-same
returns-in_err-list_both-clause-same c = roomier_same (lists_of c.args.self.now) (lists_of c.list_both.new.self) _ c.requires.sound.base c.list_both.ensures.roomier

pub returns-in_err-push-clause-same : goal.returns-in_err-push-clause-same
returns-in_err-push-clause-same c = roomier_same (lists_of c.args.self.now) (lists_of c.list_both.new.self) c.push.new.self.items c.requires.sound.base c.list_both.ensures.roomier

pub returns-clause-same : goal.returns-clause-same
returns-clause-same c = roomier_same (lists_of c.args.self.now) (lists_of c.list_both.new.self) c.push.new.self.items c.requires.sound.base c.list_both.ensures.roomier
