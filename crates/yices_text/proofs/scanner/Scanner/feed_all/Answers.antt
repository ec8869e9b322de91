use Rattle.std.proofs.Common.{◌++◌, take}
use Rattle.std.proofs.lemmas.Result.{err_from_is_err_and}
use Rattle.yices_text.proofs.Scanning.{stops_within}
use Rattle.yices_text.proofs.scanner.Scanner.feed_all.Goals as goal

pub returns-in_err-feed-clause-feeds : goal.returns-in_err-feed-clause-feeds
returns-in_err-feed-clause-feeds c = λ fed answered r.
    let p = err_from_is_err_and c.from_residual.result c.from_residual.ensures.1 in
    rw (p.1, p.2)
    (stops_within fed c.args.piece.now c.loop-byte.byte-index answered c.feed.new.self _ c.loop-byte-test.true
    (c.in_err-feed.ensures.feeds (fed ++ take c.loop-byte.byte-index c.args.piece.now) answered (c.loop-byte.invariant.feeds fed answered r)))
