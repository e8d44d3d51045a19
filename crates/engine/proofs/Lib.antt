-- The laws that stand apart from the definitions they speak of.
pub mod SessionChain
