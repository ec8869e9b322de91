use Rattle.yices_api.proofs.Outcomes.{root_term, root_type}
use Rattle.yices_api.proofs.collection.keep_root.Goals as goal

pub returns-in-Term-clause-keeps : goal.returns-in-Term-clause-keeps
returns-in-Term-clause-keeps c old ts us kept =
    root_term old c.keep.new.self.table.now ts us c.args.root c.in-Term.t c.in-Term.is (c.keep.ensures.keeps old ts us kept)

pub returns-in-TypeId-clause-keeps : goal.returns-in-TypeId-clause-keeps
returns-in-TypeId-clause-keeps c old ts us kept =
    root_type old c.keep_types.new.self.table.now ts us c.args.root c.in-TypeId.t c.in-TypeId.is (c.keep_types.ensures.keeps old ts us kept)
