-- The theorem that the table holds what the calls answer; and that the check of starts accepts what the search finds.
pub mod ByContractLaws
pub mod SearchPlanLaws
