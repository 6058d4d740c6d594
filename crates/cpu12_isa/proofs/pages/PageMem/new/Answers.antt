use Rattle.std.proofs.Common.{List, ℕ, replicate, sym, ap, ◌∙◌, subst}
use Rattle.cpu12_isa.specs.Pages.{ArePages, bytes_in, given_in}
use Rattle.cpu12_isa.proofs.PageLemmas.{length_bytes_in, none_bytes, none_given, none_used}
use Rattle.cpu12_isa.proofs.pages.PageMem.new.Goals as goal

pub invariant_of-result : goal.invariant_of-result
invariant_of-result c = record {
  pages = subst (λ (table : List ℕ). ArePages table c.in-Ok.pool.items 0) (sym c.no_places.ensures)
      (subst (λ (pool : List ℕ). ArePages (replicate 256 0) pool 0) (sym c.in-Ok.ensures) none_used);
  full = length_bytes_in c.no_places.result c.in-Ok.pool.items 65536;
}

pub returns-in-Ok-clause-bytes : goal.returns-in-Ok-clause-bytes
returns-in-Ok-clause-bytes c =
    ap (λ (table : List ℕ). bytes_in table c.in-Ok.pool.items 65536) c.no_places.ensures
    ∙ ap (λ (pool : List ℕ). bytes_in (replicate 256 0) pool 65536) c.in-Ok.ensures ∙ none_bytes

pub returns-in-Ok-clause-none : goal.returns-in-Ok-clause-none
returns-in-Ok-clause-none c = ap given_in c.no_places.ensures ∙ none_given
