pub mod Loans
