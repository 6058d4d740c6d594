-- Each image is an accepted handler or has a fault.
use Rattle.handler_check.proofs.Words.{◌<◌, ◌≡◌, ◌≤◌, ◌⊎◌, arith, byte_at, cases_lt, code_end}
use Rattle.handler_check.proofs.Words.{DecodesEncoded, Empty, false, false≢true, HandlerFault, inl, inr, Instr}
use Rattle.handler_check.proofs.Words.{is_trapped, IsFault, IsHandler, List, None, Outside, refl, subst, sym, ◌∙◌, ℕ}
use Rattle.handler_check.specs.{Images.IsRun, Images.EachImageIsJudged}
use Rattle.handler_check.proofs.{Extents.whole_of, Extents.fault_is, JudgedCode.code_judged}
use Rattle.handler_check.proofs.{JudgedCuts.cut_of_run, JudgedExtents.extent, JudgedExtents.run_or_outside}

module _ (image : List (ℕ × ℕ)) where
  abbrev IsJudged : Type 0
  IsJudged = ((instrs : ℕ) × IsHandler image instrs) ⊎ ((fault : HandlerFault) × IsFault image fault)

  -- where nothing is trapped behind the cut, it ends with the bytes
  all_cut : (end : ℕ) (is : List Instr) → IsRun image end → code_end is ≤ end → is_trapped image is ≡ false
      → 16384 < code_end is
  all_cut end is r few ends =
      let begins = r.begins in
      elim (cases_lt (code_end is) end) [
        | inr all ↦ omega (arith, begins, all)
        | inl under ↦ elim (cases_lt 16384 (code_end is)) [
          | inl some ↦ some
          | inr none ↦ absurd (false≢true (sym ends ∙ r.inside (code_end is) (omega arith) under))
        ]
      ]

  run_judged : (end : ℕ) → IsRun image end → DecodesEncoded → IsJudged
  run_judged end r decodes =
      let cut = cut_of_run decodes image end r in
      let is = cut.0 in
      let whole = whole_of image end r in
      let within = r.within in
      let few = cut.1.1 in
      elim (code_judged is (is_trapped image is) cut.1.0.fits (omega (arith, within, few)) (all_cut end is r few)) [
        | inl (ends, (instrs, accepted)) ↦ inl (
          instrs,
          record { whole = whole; code = is; cut = cut.1.0; ends = ends; accepted = accepted },
        )
        | inr (f, first) ↦ inr (f, fault_is image is (is_trapped image is) whole cut.1.0 refl f first)
      ]

pub images_judged : DecodesEncoded → EachImageIsJudged
images_judged decodes image =
    let found = extent image in
    let end = found.0 in
    let e = found.1 in
    let low = e.low in
    elim (cases_lt 16384 end) [
      | inr none ↦ inr (
        Empty,
        let same : end ≡ 16384 = omega (arith, low, none) in
            subst (λ n. byte_at image n ≡ None) same (e.ends (omega (arith, same))),
      )
      | inl some ↦ elim (run_or_outside image end e some) [
        | inl r ↦ run_judged image end r decodes
        | inr (at, least) ↦
            inr (Outside at, (e.some 16384 (omega arith) some, least.0, least.1))
      ]
    ]
