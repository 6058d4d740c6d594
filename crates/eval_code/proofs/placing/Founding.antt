-- A block's code and data stand in the memory of items that go up.
use Rattle.eval_code.proofs.Words.{◌++◌, ◌+◌, ◌∙◌, ◌≡◌, ap, append_assoc, arith, Block, block_code, block_items}
use Rattle.eval_code.proofs.Words.{bytes_at, code_at, code_bytes, encode_of, eval_code, flat_map-append, given_by}
use Rattle.eval_code.proofs.Words.{HasBytes, HasEval, Instr, IsRising, Item, length, List, MemoryMap, rule_bytes}
use Rattle.eval_code.proofs.Words.{singleton_bytes, subst, sym, table_bytes, weight_bytes, Width, ℕ}
use Rattle.eval_code.specs.{Evaluation.eval_bytes}
use Rattle.eval_code.proofs.{Joins.block_items-then, steps.Memory.bytes_front, steps.Memory.bytes_back}
use Rattle.eval_code.proofs.Sizes.{code_size, length-code_bytes}
use Rattle.eval_code.proofs.placing.Standing.{Rises, HasGiven, bytes_stand, code_stands}

pub bytes_append : (a b : List Instr) → code_bytes (a ++ b) ≡ code_bytes a ++ code_bytes b
bytes_append a b = flat_map-append encode_of a b

-- the parts of a block stand
pub record Stood (image : List ℕ) (l : MemoryMap) (b : Block) (w : Width) (before behind : List Instr) : Type 0 where
  pub code : HasBytes image l.code (code_bytes (block_code l b w before behind))
  pub tables : HasBytes image l.tables (table_bytes b)
  pub singletons : HasBytes image l.singletons (singleton_bytes b)
  pub weights : HasBytes image l.weights (weight_bytes b)
  pub rules : HasBytes image l.rules (rule_bytes l.slots b)

-- so they do among rising items
pub stood : Rises → (image : List ℕ) (front rest : List Item) (l : MemoryMap) (b : Block) (w : Width)
    (before behind : List Instr)
    → HasGiven image (given_by (front ++ (block_items l b w before behind ++ rest)))
    → IsRising (front ++ (block_items l b w before behind ++ rest))
    → Stood image l b w before behind
stood rises image front rest l b w before behind h rise =
    let items = front ++ (block_items l b w before behind ++ rest) in
    let A = code_at l.code (block_code l b w before behind) in
    let T = bytes_at l.tables (table_bytes b) in
    let S = bytes_at l.singletons (singleton_bytes b) in
    let W = bytes_at l.weights (weight_bytes b) in
    let R = bytes_at l.rules (rule_bytes l.slots b) in
    let e1 : items ≡ front ++ (A ++ (T ++ (S ++ (W ++ (R ++ rest))))) =
    ap (λ (x : List Item). front ++ x) (block_items-then l b w before behind rest) in
    let e2 : items ≡ (front ++ A) ++ (T ++ (S ++ (W ++ (R ++ rest)))) =
    e1 ∙ sym (append_assoc front A (T ++ (S ++ (W ++ (R ++ rest))))) in
    let e3 : items ≡ ((front ++ A) ++ T) ++ (S ++ (W ++ (R ++ rest))) =
    e2 ∙ sym (append_assoc (front ++ A) T (S ++ (W ++ (R ++ rest)))) in
    let e4 : items ≡ (((front ++ A) ++ T) ++ S) ++ (W ++ (R ++ rest)) =
    e3 ∙ sym (append_assoc ((front ++ A) ++ T) S (W ++ (R ++ rest))) in
    let e5 : items ≡ ((((front ++ A) ++ T) ++ S) ++ W) ++ (R ++ rest) =
    e4 ∙ sym (append_assoc (((front ++ A) ++ T) ++ S) W (R ++ rest)) in
    record {
      code = code_stands rises image items front (T ++ (S ++ (W ++ (R ++ rest)))) l.code
          (block_code l b w before behind) h rise e1;
      tables = bytes_stand rises image items (front ++ A) (S ++ (W ++ (R ++ rest))) l.tables (table_bytes b) h rise e2;
      singletons = bytes_stand rises image items ((front ++ A) ++ T) (W ++ (R ++ rest)) l.singletons
          (singleton_bytes b) h rise e3;
      weights = bytes_stand rises image items (((front ++ A) ++ T) ++ S) (R ++ rest) l.weights
          (weight_bytes b) h rise e4;
      rules = bytes_stand rises image items ((((front ++ A) ++ T) ++ S) ++ W) rest l.rules
          (rule_bytes l.slots b) h rise e5;
    }

-- the code before EVAL, EVAL with its data, and the code behind it
pub record AroundEval (image : List ℕ) (l : MemoryMap) (b : Block) (w : Width) (before behind : List Instr) : Type 0
  where
    pub front : HasBytes image l.code (code_bytes before)
    pub eval : HasEval l b w image
    pub back : HasBytes image (l.eval + length (eval_bytes l b w)) (code_bytes behind)

pub around_eval : (image : List ℕ) (l : MemoryMap) (b : Block) (w : Width) (before behind : List Instr)
    → l.eval ≡ l.code + code_size before → Stood image l b w before behind
    → AroundEval image l b w before behind
around_eval image l b w before behind at h =
    let eval = eval_code l b w in
    let split : code_bytes (block_code l b w before behind) ≡ code_bytes before
    ++ (code_bytes eval ++ code_bytes behind) =
    bytes_append before (eval ++ behind) ∙ ap (λ (x : List ℕ). code_bytes before ++ x) (bytes_append eval behind) in
    let code : HasBytes image l.code (code_bytes before ++ (code_bytes eval ++ code_bytes behind)) =
    subst (HasBytes image l.code) split h.code in
    let e : l.code + length (code_bytes before) ≡ l.eval = omega (arith, length-code_bytes before) in
    let later : HasBytes image l.eval (code_bytes eval ++ code_bytes behind) =
    subst (λ (p : ℕ). HasBytes image p (code_bytes eval ++ code_bytes behind)) e
    (bytes_back image l.code (code_bytes before) (code_bytes eval ++ code_bytes behind) code) in
    record {
      front = bytes_front image l.code (code_bytes before) (code_bytes eval ++ code_bytes behind) code;
      eval = record {
        code = bytes_front image l.eval (code_bytes eval) (code_bytes behind) later;
        tables = h.tables;
        singletons = h.singletons;
        weights = h.weights;
        rules = h.rules;
      };
      back = bytes_back image l.eval (code_bytes eval) (code_bytes behind) later;
    }
