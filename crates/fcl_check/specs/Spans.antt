-- What a span of the code stands for. No public clause cites it.
-- Beside the promise.
use Rattle.fcl_check.specs.{declared.numbers.Span.Span, Sections.Ends}

-- its low and its high end
abbrev pub ends_in : Span → Ends
ends_in s = (s.lo.0, s.hi.0)
