use Rattle.std.proofs.Common.{take}
use Rattle.request.specs.Encoding.{link_fields}
use Rattle.writing.specs.inner.Puts.{Puts}
use Rattle.writing.proofs.File.put_links.Given as goal

abbrev pub invariant-loop-link : goal.invariant-loop-link
invariant-loop-link l = Puts l.initial.self l.self (link_fields (take l.link-index l.links))
