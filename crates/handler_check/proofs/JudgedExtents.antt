-- The bytes of an image end somewhere, or one stands outside.
use Rattle.handler_check.proofs.Words.{◌+◌, ◌<◌, ◌≡◌, ◌≤◌, ◌⊎◌, arith, byte_at, cases_eq, cases_lt}
use Rattle.handler_check.proofs.Words.{inl, inr, IsOutside, IsSome, List, None}
use Rattle.handler_check.proofs.Words.{Option, refl, Some, subst, suc, sym, zero, ℕ}
use Rattle.cpu12_asm.proofs.Algebra.{highest}
use Rattle.handler_check.specs.{Images.IsRun}
use Rattle.handler_check.proofs.Extents.{none_not}

pub none_or_some : (o : Option ℕ) → (o ≡ None) ⊎ IsSome o
none_or_some None = inl refl
none_or_some (Some b) = inr refl

-- from $4000 on each byte is there, up to $4FFF or up to one that is not
pub record IsExtent (image : List (ℕ × ℕ)) (end : ℕ) : Type 0 where
  pub low : 16384 ≤ end
  pub high : end ≤ 20480
  pub some : (q : ℕ) → 16384 ≤ q → q < end → IsSome (byte_at image q)
  pub ends : end < 20480 → byte_at image end ≡ None

extent_from : (image : List (ℕ × ℕ)) (left at : ℕ) → at + left ≡ 20480 → 16384 ≤ at
    → ((q : ℕ) → 16384 ≤ q → q < at → IsSome (byte_at image q)) → (end : ℕ) × IsExtent image end
extent_from image zero at e low some =
    (at, record { low = low; high = omega (arith, e); some = some; ends = λ l. absurd (omega (arith, e, l)) })
extent_from image (suc left) at e low some = elim (none_or_some (byte_at image at)) [
  | inl none ↦ (at, record { low = low; high = omega (arith, e); some = some; ends = λ l. none })
  | inr here ↦ extent_from image left (at + 1) (omega (arith, e)) (omega (arith, low)) (λ q from l. elim (cases_lt q at) [
    | inl before ↦ some q from before
    | inr last ↦ subst (λ n. IsSome (byte_at image n)) (let same : at ≡ q = omega (arith, last, l) in same) here
  ])
]

pub extent : (image : List (ℕ × ℕ)) → (end : ℕ) × IsExtent image end
extent image = extent_from image 4096 16384 refl (omega arith) (λ q from l. absurd (omega arith))

-- the least of the bytes outside
abbrev pub IsLeastOutside : List (ℕ × ℕ) → ℕ → Type 0
IsLeastOutside image at = IsOutside image at × ((q : ℕ) → IsOutside image q → at ≤ q)

module _ (image : List (ℕ × ℕ)) (end : ℕ) (e : IsExtent image end) where
  stands_outside : (q : ℕ) → IsSome (byte_at image q) → (q < 16384) ⊎ (end ≤ q) → IsOutside image q
  stands_outside q here (inl l) = (here, inl l)
  stands_outside q here (inr l) = (here, inr (behind (cases_lt end 20480)))
    where
      further : byte_at image end ≡ None → (q ≡ end) ⊎ (q ≡ end → ⊥) → end < q
      further none (inl same) =
          absurd (none_not (byte_at image q) (subst (λ n. byte_at image n ≡ None) (sym same) none) here)
      further none (inr other) = omega arith

      behind : (end < 20480) ⊎ (20480 ≤ end)
          → (20480 ≤ q) ⊎ ((gap : ℕ) × ((16384 ≤ gap) × (gap < q) × (byte_at image gap ≡ None)))
      behind (inl under) = inr (end, (e.low, further (e.ends under) (cases_eq q end), e.ends under))
      behind (inr limit) = inl (omega arith)

  is_outside_or : (q : ℕ) → IsOutside image q ⊎ (IsOutside image q → ⊥)
  is_outside_or q = elim (none_or_some (byte_at image q)) [
    | inl none ↦ inr (λ out. none_not (byte_at image q) none out.0)
    | inr here ↦ elim (cases_lt q 16384) [
      | inl l ↦ inl (stands_outside q here (inl l))
      | inr from ↦ elim (cases_lt q end) [
        | inr l ↦ inl (stands_outside q here (inr l))
        | inl inside ↦ inr (λ out. elim out.1 [
          | inl l ↦ omega (arith, l, from)
          | inr r ↦ elim r [
            | inl l ↦ (let high = e.high in omega (arith, l, inside, high))
            | inr gap ↦ (let before = gap.1.1 in
                none_not (byte_at image gap.0) gap.1.2 (e.some gap.0 gap.1.0 (omega (arith, before, inside))))
          ]
        ])
      ]
    ]
  ]

  least_or_none : (n : ℕ) → ((q : ℕ) → q < n → IsOutside image q → ⊥) ⊎ ((q : ℕ) × IsLeastOutside image q)
  least_or_none zero = inl (λ q l. absurd (omega arith))
  least_or_none (suc n) = elim (least_or_none n) [
    | inr found ↦ inr found
    | inl before ↦ elim (is_outside_or n) [
      | inl out ↦ inr (
        n,
        (
          out,
          λ q other. elim (cases_lt q n) [
            | inl less ↦ absurd (before q less other)
            | inr more ↦ more
          ],
        ),
      )
      | inr inside ↦ inl (λ q l out. elim (cases_lt q n) [
        | inl less ↦ before q less out
        | inr last ↦
            let same : q ≡ n = omega (arith, last, l) in inside (subst (λ k. IsOutside image k) same out)
      ])
    ]
  ]

  none_there : ((q : ℕ) → IsOutside image q → ⊥) → (at : ℕ) → (at < 16384) ⊎ (end ≤ at) → byte_at image at ≡ None
  none_there never at out = elim (none_or_some (byte_at image at)) [
    | inl none ↦ none
    | inr here ↦ absurd (never at (stands_outside at here out))
  ]

  pub run_or_outside : 16384 < end → IsRun image end ⊎ ((q : ℕ) × IsLeastOutside image q)
  run_or_outside begins = elim (least_or_none (highest image).0) [
    | inr found ↦ inr found
    | inl before ↦ inl (record {
      begins = begins;
      within = e.high;
      inside = e.some;
      outside = none_there (λ q out. elim (cases_lt q (highest image).0) [
        | inl less ↦ before q less out
        | inr more ↦ none_not (byte_at image q) ((highest image).1 q more) out.0
      ]);
    })
  ]
